use Rattle.std.proofs.Common.{◌≡◌, ◌++◌}
use Rattle.std.specs.List.{concat}
use Rattle.mz_num.specs.Places.{list_below}
use Rattle.mz_gen.specs.Features.{contrib_lines}
use Rattle.mz_gen.proofs.features.push_contribs.Given as goal

abbrev pub invariant-loop-feature : goal.invariant-loop-feature
invariant-loop-feature l = l.text.items ≡ l.initial.text.items ++ concat (list_below l.feature contrib_lines)
