use Rattle.std.proofs.Common.{◌≡◌, ℕ, true, false, ◌∙◌, ap}
use Rattle.csv.specs.Reading.{builder_config, default_config, strip_bom, with_config, with_flexible, with_names_headers}
use Rattle.csv.specs.declared.parser.Config.{Config}
use Rattle.csv.specs.declared.reader.ReaderBuilder.{ReaderBuilder}
use Rattle.mz_tables.specs.Table.{table_config}
use Rattle.mz_tables.proofs.LeftLemmas.{rest-start}
use Rattle.mz_tables.proofs.reading.open.Goals as goal

config_of : (b0 b1 b2 b3 : ReaderBuilder) (d e : ℕ) → builder_config b0 ≡ default_config → b1 ≡ with_names_headers b0 false → b2 ≡ with_flexible b1 true → b3 ≡ with_config b2 (record (builder_config b2) { delimiter = d }) → d ≡ e → builder_config b3 ≡ record default_config { delimiter = e }
config_of b0 b1 b2 b3 d e start named flexible delimited same =
    ap builder_config delimited
    ∙ (ap (λ (cfg : Config). record cfg { delimiter = d }) (ap builder_config flexible ∙ (ap builder_config named ∙ start))
    ∙ ap (λ (n : ℕ). record default_config { delimiter = n }) same)

pub returns-clause-rest : goal.returns-clause-rest
unfolding table_config
returns-clause-rest c =
    rest-start c.from_reader.result (table_config c.args.bytes.now) (strip_bom c.args.bytes.now)
    (c.from_reader.ensures.config ∙ config_of c.new.result c.has_headers.result.now c.flexible.result.now c.delimiter-2.result.now c.delimiter.result _ c.new.ensures.config c.has_headers.ensures c.flexible.ensures c.delimiter-2.ensures c.delimiter.ensures)
    c.from_reader.ensures.state c.from_reader.ensures.source
