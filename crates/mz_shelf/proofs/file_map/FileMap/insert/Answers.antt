use Rattle.mz_shelf.proofs.EntryLemmas.{files_of-insert_same}
use Rattle.mz_shelf.proofs.file_map.FileMap.insert.Goals as goal

pub returns-clause-ok : goal.returns-clause-ok
returns-clause-ok c =
    files_of-insert_same c.self.inside.files c.insert.new.self c.args.self.now c.in_ok-name.name c.in_ok-bytes.bytes c.args.name.now c.args.bytes.now
    c.self.view_is c.in_ok-name.ensures.ok c.in_ok-bytes.ensures.items c.in_ok-insert.ensures.updates
