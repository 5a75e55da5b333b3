-- The files of a generated project, in the order in which they are written.
use Rattle.std.specs.Prelude.{ℕ, List, [], ◌∷◌, map, codes}
use Rattle.mz_shelf.specs.Act.{Act}
use Rattle.mz_shelf.specs.Act.Act.{Write}
use Rattle.mz_gen.specs.declared.file.GeneratedFile.{GeneratedFile}
use Rattle.mz_gen.specs.declared.file.GeneratedFile.TheVariants.{Parameters, Zones, Units, ZoneCosts, Features, Amounts}
use Rattle.mz_gen.specs.declared.file.GeneratedFile.TheVariants.{Contribs, ZoneTargets, ZoneSets, Locks}
use Rattle.mz_gen.specs.declared.file.GeneratedFile.TheVariants.{Bounds, ZoneBounds}
use Rattle.mz_gen.specs.Bounds.{bounds_text}
use Rattle.mz_gen.specs.Features.{features_text, contribs_text}
use Rattle.mz_gen.specs.Parameters.{parameters_text}
use Rattle.mz_gen.specs.Sets.{zone_sets_text, locks_text}
use Rattle.mz_gen.specs.Units.{units_text, amounts_text}
use Rattle.mz_gen.specs.Words.{words_of}

abbrev pub name_of_file : GeneratedFile → List ℕ
name_of_file Parameters = codes "input.dat"
name_of_file Zones = codes "zones.dat"
name_of_file Units = codes "pu.dat"
name_of_file ZoneCosts = codes "zonecost.dat"
name_of_file Features = codes "feat.dat"
name_of_file Amounts = codes "amounts.dat"
name_of_file Contribs = codes "contrib.dat"
name_of_file ZoneTargets = codes "ztarget.dat"
name_of_file ZoneSets = codes "puzone.dat"
name_of_file Locks = codes "pulock.dat"
name_of_file Bounds = codes "bound.dat"
name_of_file ZoneBounds = codes "zonebound.dat"

-- 2,000 units, three zones and 20 features, made by the number's first 42,000 words
abbrev pub text_of_file : ℕ → GeneratedFile → List ℕ
text_of_file number Parameters = parameters_text number
text_of_file number Zones = codes "zoneid,zonename\n1,available\n2,partial\n3,full\n"
text_of_file number Units = units_text 2000 (words_of 42000 number)
text_of_file number ZoneCosts = codes "zoneid,costid,multiplier\n2,1,0.5\n3,1,1\n"
text_of_file number Features = features_text 20
text_of_file number Amounts = amounts_text 20 2000 (words_of 42000 number)
text_of_file number Contribs = contribs_text 20
text_of_file number ZoneTargets = codes "zoneid,featureid,target,targettype\n3,1,0.1,1\n"
text_of_file number ZoneSets = zone_sets_text 2000
text_of_file number Locks = locks_text 2000
text_of_file number Bounds = bounds_text 2000
text_of_file number ZoneBounds = codes "zoneid1,zoneid2,cost\n1,2,1\n1,3,1\n2,3,0.5\n"

abbrev pub in_order : List GeneratedFile
in_order =
    Parameters ∷ Zones ∷ Units ∷ ZoneCosts ∷ Features ∷ Amounts ∷ Contribs ∷ ZoneTargets ∷ ZoneSets ∷ Locks
    ∷ Bounds ∷ ZoneBounds ∷ []

abbrev pub write_of : ℕ → GeneratedFile → Act
write_of number file = Write (name_of_file file) (text_of_file number file)

abbrev pub files_of : ℕ → List Act
files_of number = map (write_of number) in_order
