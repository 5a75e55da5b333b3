use Rattle.mz_shelf.proofs.FolderLemmas.{ReadStopped-untold}
use Rattle.mz_shelf.proofs.dir_shelf.DirShelfShelf.read_file.Goals as goal

pub returns-in-Err : goal.returns-in-Err
returns-in-Err g c =
    ReadStopped-untold c.args.name.now c.in-Err.error c.args.self.now c.count.new.self c.count.ensures.counted c.count.ensures.keeps
