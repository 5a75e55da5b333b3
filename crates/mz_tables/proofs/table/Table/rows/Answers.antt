use Rattle.std.proofs.Common.{◌≡◌, length, arith, sym, ◌∙◌, ap}
use Rattle.csv.specs.Records.{fields_of}
use Rattle.mz_tables.proofs.CellLemmas.{length-rows_in}
use Rattle.mz_tables.proofs.table.Table.rows.Goals as goal

pub returns-clause-rows : goal.returns-clause-rows
returns-clause-rows c = sym (length-rows_in c.self.inside.columns.items c.self.inside.count (fields_of c.self.inside.cells)) ∙ ap length c.self.view_is

pub returns-clause-few : goal.returns-clause-few
returns-clause-few c =
    let many : length c.args.self.now ≡ c.self.inside.count = ap length (sym c.self.view_is) ∙ length-rows_in c.self.inside.columns.items c.self.inside.count (fields_of c.self.inside.cells) in
    omega (arith, c.self.invariant.2)
