use Rattle.std.proofs.Common.{ap, ◌∙◌, sym, map}
use Rattle.std.specs.Char.{to_ascii_lowercase}
use Rattle.std.proofs.lemmas.Bool.Decides.{same_from_decides}
use Rattle.std.proofs.lemmas.Slice.Eq.{bytes_eq-Decides}
use Rattle.mz_params.proofs.key.is_named.Goals as goal

pub returns : goal.returns
returns c =
    let named = c.as_bytes.ensures.value ∙ c.name.ensures in
    let lower = ap (map to_ascii_lowercase) named in
    same_from_decides _ _
    ((λ t. sym lower ∙ c.eq_ignore_ascii_case.ensures.test.0 t), (λ e. c.eq_ignore_ascii_case.ensures.test.1 (lower ∙ e)))
    (bytes_eq-Decides _ _)
