-- Problems without features.
use Rattle.std.specs.Prelude.{[]}
use Rattle.mz_model.specs.declared.parts.Parts.{Parts}

abbrev pub without_features : Parts → Parts
without_features parts = record parts { feature_ids = []; names = []; targets = []; amounts = []; fractions = [] }
