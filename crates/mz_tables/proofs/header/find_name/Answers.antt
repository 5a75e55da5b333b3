use Rattle.std.proofs.Common.{[], arith, sym, ◌∙◌, ap}
use Rattle.csv.specs.Records.{fields_of}
use Rattle.mz_tables.specs.Header.{is_named}
use Rattle.mz_tables.proofs.PositionLemmas.{position-found, position-none}
use Rattle.mz_tables.proofs.header.find_name.Goals as goal

pub returns-then-has_name : goal.returns-then-has_name
returns-then-has_name c =
    sym (position-found (is_named c.args.name.now) (fields_of c.args.header.now) c.loop-place.place [] (omega (arith, c.len-place-end.ensures)) c.loop-place.invariant
    (ap (is_named c.args.name.now) (sym c.field_at.ensures) ∙ (sym c.has_name.ensures ∙ c.if-has_name.true)))

pub returns : goal.returns
returns c = sym (position-none (is_named c.args.name.now) (fields_of c.args.header.now) [] (λ k h. c.loop-place.invariant k (omega (arith, c.len-place-end.ensures))))
