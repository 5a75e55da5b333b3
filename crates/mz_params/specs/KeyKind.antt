-- The kind of value that each key of a parameter file takes.
use Rattle.mz_params.specs.declared.key.Key.{Key}
use Rattle.mz_params.specs.declared.key.Key.TheVariants.{InputDir, OutputDir, ScenName, PuName, FeatName}
use Rattle.mz_params.specs.declared.key.Key.TheVariants.{PuVsFeatName, BoundName, ZonesName, CostsName, ZoneCostName}
use Rattle.mz_params.specs.declared.key.Key.TheVariants.{ZoneBoundCostName, ZoneContribName, ZoneTargetName}
use Rattle.mz_params.specs.declared.key.Key.TheVariants.{PuLockName, PuZoneName, AvailableZone, Blm, Prop, MissLevel}
use Rattle.mz_params.specs.declared.key.Key.TheVariants.{RandSeed, NumReps, NumItns, StartTemp, CoolFac, NumTemp}
use Rattle.mz_params.specs.declared.key.Key.TheVariants.{RunMode, SaveRun, SaveBest, SaveSummary, SaveTargMet}
use Rattle.mz_params.specs.declared.key.Key.TheVariants.{SaveSumSoln, SaveTurns, ClumpType, CostThresh, Asymmetric}
use Rattle.mz_params.specs.declared.key_kind.KeyKind.{KeyKind}
use Rattle.mz_params.specs.declared.key_kind.KeyKind.TheVariants.{Text, Whole, Millionths, Seed, Start, Mode, Zero}

-- the kind of value that a key takes
abbrev pub kind_of : Key → KeyKind
kind_of InputDir = Text
kind_of OutputDir = Text
kind_of ScenName = Text
kind_of PuName = Text
kind_of FeatName = Text
kind_of PuVsFeatName = Text
kind_of BoundName = Text
kind_of ZonesName = Text
kind_of CostsName = Text
kind_of ZoneCostName = Text
kind_of ZoneBoundCostName = Text
kind_of ZoneContribName = Text
kind_of ZoneTargetName = Text
kind_of PuLockName = Text
kind_of PuZoneName = Text
kind_of AvailableZone = Whole
kind_of Blm = Millionths
kind_of Prop = Millionths
kind_of MissLevel = Millionths
kind_of RandSeed = Seed
kind_of NumReps = Whole
kind_of NumItns = Whole
kind_of StartTemp = Start
kind_of CoolFac = Millionths
kind_of NumTemp = Whole
kind_of RunMode = Mode
kind_of SaveRun = Whole
kind_of SaveBest = Whole
kind_of SaveSummary = Whole
kind_of SaveTargMet = Whole
kind_of SaveSumSoln = Whole
kind_of SaveTurns = Whole
kind_of ClumpType = Zero
kind_of CostThresh = Zero
kind_of Asymmetric = Zero
