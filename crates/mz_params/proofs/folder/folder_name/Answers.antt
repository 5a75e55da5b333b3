use Rattle.std.proofs.Common.{refl, arith, Some, None}
use Rattle.std.proofs.lemmas.Str.Pattern.{strip_suffix_char}
use Rattle.mz_params.proofs.FolderLemmas.{marked, unmarked}
use Rattle.mz_params.proofs.folder.folder_name.Goals as goal

pub returns-in-Some : goal.returns-in-Some
returns-in-Some c = marked c.args.folder.now c.in-Some.front.now 47 refl (strip_suffix_char 47 c.args.folder.now (Some c.in-Some.front) c.in-Some.ensures.cases (omega arith))

pub returns-in-Some-strip_suffix : goal.returns-in-Some-strip_suffix
returns-in-Some-strip_suffix c = marked c.args.folder.now c.in-Some-strip_suffix.front.now 92 refl (strip_suffix_char 92 c.args.folder.now (Some c.in-Some-strip_suffix.front) c.in-Some-strip_suffix.ensures.cases (omega arith))

pub returns-in-None-strip_suffix : goal.returns-in-None-strip_suffix
returns-in-None-strip_suffix c = unmarked c.args.folder.now (strip_suffix_char 47 c.args.folder.now None c.in-None.ensures.cases (omega arith)) (strip_suffix_char 92 c.args.folder.now None c.in-None-strip_suffix.ensures.cases (omega arith))
