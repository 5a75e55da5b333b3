-- The keys of a parameter file and their names.
use Rattle.std.specs.Prelude.{ℕ, Bool, List, [], ◌∷◌, Option, codes}
use Rattle.std.specs.Str.{bytes_eq, str_eq_ignore_ascii_case}
use Rattle.std.specs.List.{find}
use Rattle.mz_params.specs.declared.key.Key.{Key}
use Rattle.mz_params.specs.declared.key.Key.TheVariants.{InputDir, OutputDir, ScenName, PuName, FeatName}
use Rattle.mz_params.specs.declared.key.Key.TheVariants.{PuVsFeatName, BoundName, ZonesName, CostsName, ZoneCostName}
use Rattle.mz_params.specs.declared.key.Key.TheVariants.{ZoneBoundCostName, ZoneContribName, ZoneTargetName}
use Rattle.mz_params.specs.declared.key.Key.TheVariants.{PuLockName, PuZoneName, AvailableZone, Blm, Prop, MissLevel}
use Rattle.mz_params.specs.declared.key.Key.TheVariants.{RandSeed, NumReps, NumItns, StartTemp, CoolFac, NumTemp}
use Rattle.mz_params.specs.declared.key.Key.TheVariants.{RunMode, SaveRun, SaveBest, SaveSummary, SaveTargMet}
use Rattle.mz_params.specs.declared.key.Key.TheVariants.{SaveSumSoln, SaveTurns, ClumpType, CostThresh, Asymmetric}

-- a key's name in the file and in messages
abbrev pub name_of : Key → List ℕ
name_of InputDir = codes "INPUTDIR"
name_of OutputDir = codes "OUTPUTDIR"
name_of ScenName = codes "SCENNAME"
name_of PuName = codes "PUNAME"
name_of FeatName = codes "FEATNAME"
name_of PuVsFeatName = codes "PUVSFEATNAME"
name_of BoundName = codes "BOUNDNAME"
name_of ZonesName = codes "ZONESNAME"
name_of CostsName = codes "COSTSNAME"
name_of ZoneCostName = codes "ZONECOSTNAME"
name_of ZoneBoundCostName = codes "ZONEBOUNDCOSTNAME"
name_of ZoneContribName = codes "ZONECONTRIBNAME"
name_of ZoneTargetName = codes "ZONETARGETNAME"
name_of PuLockName = codes "PULOCKNAME"
name_of PuZoneName = codes "PUZONENAME"
name_of AvailableZone = codes "AVAILABLEZONE"
name_of Blm = codes "BLM"
name_of Prop = codes "PROP"
name_of MissLevel = codes "MISSLEVEL"
name_of RandSeed = codes "RANDSEED"
name_of NumReps = codes "NUMREPS"
name_of NumItns = codes "NUMITNS"
name_of StartTemp = codes "STARTTEMP"
name_of CoolFac = codes "COOLFAC"
name_of NumTemp = codes "NUMTEMP"
name_of RunMode = codes "RUNMODE"
name_of SaveRun = codes "SAVERUN"
name_of SaveBest = codes "SAVEBEST"
name_of SaveSummary = codes "SAVESUMMARY"
name_of SaveTargMet = codes "SAVETARGMET"
name_of SaveSumSoln = codes "SAVESUMSOLN"
name_of SaveTurns = codes "SAVETURNS"
name_of ClumpType = codes "CLUMPTYPE"
name_of CostThresh = codes "COSTTHRESH"
name_of Asymmetric = codes "ASYMMETRICCONNECTIVITY"

-- all keys, in their order
abbrev pub all_keys : List Key
all_keys =
    InputDir ∷ OutputDir ∷ ScenName ∷ PuName ∷ FeatName ∷ PuVsFeatName ∷ BoundName
    ∷ ZonesName ∷ CostsName ∷ ZoneCostName ∷ ZoneBoundCostName ∷ ZoneContribName ∷ ZoneTargetName ∷ PuLockName
    ∷ PuZoneName ∷ AvailableZone ∷ Blm ∷ Prop ∷ MissLevel ∷ RandSeed ∷ NumReps
    ∷ NumItns ∷ StartTemp ∷ CoolFac ∷ NumTemp ∷ RunMode ∷ SaveRun ∷ SaveBest
    ∷ SaveSummary ∷ SaveTargMet ∷ SaveSumSoln ∷ SaveTurns ∷ ClumpType ∷ CostThresh ∷ Asymmetric
    ∷ []

-- the word is the key's name, in capitals or not
abbrev pub is_named : List ℕ → Key → Bool
is_named word key = str_eq_ignore_ascii_case (name_of key) word

-- the key that a word names
unfoldable pub key_of : List ℕ → Option Key
key_of word = find (is_named word) all_keys

-- two keys are one where they have one name
abbrev pub same_key : Key → Key → Bool
same_key a b = bytes_eq (name_of a) (name_of b)
