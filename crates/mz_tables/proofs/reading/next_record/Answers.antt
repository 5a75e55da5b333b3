use Rattle.csv.specs.Records.{fields_of}
use Rattle.mz_tables.proofs.LeftLemmas.{read-takes}
use Rattle.mz_tables.proofs.reading.next_record.Goals as goal

pub returns-clause-takes : goal.returns-clause-takes
returns-clause-takes c = read-takes c.args.reader.now c.read_byte_record.new.self c.in-Ok.found (fields_of c.read_byte_record.new.row) c.requires.known (c.in-Ok.ensures.reads c.requires.untrimmed c.requires.ready)
