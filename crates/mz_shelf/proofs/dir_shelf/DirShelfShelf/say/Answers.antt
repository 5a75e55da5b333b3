use Rattle.mz_shelf.specs.Act.Act.{Say}
use Rattle.mz_shelf.proofs.FolderLemmas.{ActFailed-untold}
use Rattle.mz_shelf.proofs.dir_shelf.DirShelfShelf.say.Goals as goal

pub returns-then-is_err : goal.returns-then-is_err
returns-then-is_err g c =
    ActFailed-untold (Say c.args.bytes.now) c.args.self.now c.count.new.self c.count.ensures.counted c.count.ensures.keeps
