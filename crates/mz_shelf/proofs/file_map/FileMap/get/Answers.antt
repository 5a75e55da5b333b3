use Rattle.std.proofs.Common.{Some, None, ap, ◌∙◌}
use Rattle.mz_shelf.proofs.EntryLemmas.{get-files_of_same}
use Rattle.mz_shelf.proofs.file_map.FileMap.get.Goals as goal

pub returns-in-Some : goal.returns-in-Some
returns-in-Some c =
    ap Some c.as_slice.ensures.value
    ∙ get-files_of_same c.self.inside.files c.args.self.now c.args.name.now (Some c.in-Some.bytes.now) c.self.view_is c.in-Some.ensures.value

pub returns-in-None : goal.returns-in-None
returns-in-None c =
    get-files_of_same c.self.inside.files c.args.self.now c.args.name.now None c.self.view_is c.in-None.ensures.value
