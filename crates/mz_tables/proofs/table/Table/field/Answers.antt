use Rattle.std.proofs.Common.{◌∙◌, arith}
use Rattle.csv.specs.Records.{fields_of}
use Rattle.mz_tables.proofs.CellLemmas.{field-fits, field-none, field-some, row-wide}
use Rattle.mz_tables.proofs.table.Table.field.Goals as goal

pub index-requires : goal.index-requires
index-requires c = omega (arith, row-wide c.self.inside.columns.items c.self.inside.count (fields_of c.self.inside.cells) c.args.self.now c.args.row c.self.view_is c.requires.row, c.self.inside.columns.ok.0)

pub overflow_mul-row : goal.overflow_mul-row
overflow_mul-row c = omega (arith, field-fits c.self.inside.columns.items c.self.inside.count (fields_of c.self.inside.cells) c.args.self.now c.args.row c.args.want c.len-width.result c.self.view_is c.requires.row c.requires.want (omega (arith, c.self.inside.columns.ok.0)) c.self.invariant.1 c.self.invariant.2)

pub overflow_add-row : goal.overflow_add-row
overflow_add-row c = omega (arith, field-fits c.self.inside.columns.items c.self.inside.count (fields_of c.self.inside.cells) c.args.self.now c.args.row c.args.want c.len-width.result c.self.view_is c.requires.row c.requires.want (omega (arith, c.self.inside.columns.ok.0)) c.self.invariant.1 c.self.invariant.2)

pub returns-in-Some : goal.returns-in-Some
returns-in-Some c =
    c.get.ensures.value
    ∙ field-some c.self.inside.columns.items c.self.inside.count (fields_of c.self.inside.cells) c.args.self.now c.args.row c.args.want c.len-width.result c.in-Some.field-0 c.index.result.now c.self.view_is c.requires.row (omega (arith, row-wide c.self.inside.columns.items c.self.inside.count (fields_of c.self.inside.cells) c.args.self.now c.args.row c.self.view_is c.requires.row)) (omega (arith, c.self.inside.columns.ok.0)) c.self.invariant.0 c.index.ensures c.in-Some.is

pub returns-in-None : goal.returns-in-None
returns-in-None c = field-none c.self.inside.columns.items c.self.inside.count (fields_of c.self.inside.cells) c.args.self.now c.args.row c.args.want c.index.result.now c.self.view_is c.requires.row (omega (arith, row-wide c.self.inside.columns.items c.self.inside.count (fields_of c.self.inside.cells) c.args.self.now c.args.row c.self.view_is c.requires.row)) c.index.ensures c.in-None.is
