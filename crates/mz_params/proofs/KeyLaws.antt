-- Laws of the keys of a parameter file.
use Rattle.std.proofs.Common.{◌≡◌, Some, refl, sym, ◌∙◌, ap}
use Rattle.mz_params.specs.declared.key.Key.{Key}
use Rattle.mz_params.specs.declared.key.Key.TheVariants.{InputDir, OutputDir, ScenName, PuName, FeatName, PuVsFeatName, BoundName, ZonesName, CostsName, ZoneCostName, ZoneBoundCostName, ZoneContribName, ZoneTargetName, PuLockName, PuZoneName, AvailableZone, Blm, Prop, MissLevel, RandSeed, NumReps, NumItns, StartTemp, CoolFac, NumTemp, RunMode, SaveRun, SaveBest, SaveSummary, SaveTargMet, SaveSumSoln, SaveTurns, ClumpType, CostThresh, Asymmetric}
use Rattle.mz_params.specs.KeyName.{name_of, key_of}

-- a key's name names it
pub key_of-name_of : (key : Key) → key_of (name_of key) ≡ Some key
unfolding key_of
key_of-name_of InputDir = refl
key_of-name_of OutputDir = refl
key_of-name_of ScenName = refl
key_of-name_of PuName = refl
key_of-name_of FeatName = refl
key_of-name_of PuVsFeatName = refl
key_of-name_of BoundName = refl
key_of-name_of ZonesName = refl
key_of-name_of CostsName = refl
key_of-name_of ZoneCostName = refl
key_of-name_of ZoneBoundCostName = refl
key_of-name_of ZoneContribName = refl
key_of-name_of ZoneTargetName = refl
key_of-name_of PuLockName = refl
key_of-name_of PuZoneName = refl
key_of-name_of AvailableZone = refl
key_of-name_of Blm = refl
key_of-name_of Prop = refl
key_of-name_of MissLevel = refl
key_of-name_of RandSeed = refl
key_of-name_of NumReps = refl
key_of-name_of NumItns = refl
key_of-name_of StartTemp = refl
key_of-name_of CoolFac = refl
key_of-name_of NumTemp = refl
key_of-name_of RunMode = refl
key_of-name_of SaveRun = refl
key_of-name_of SaveBest = refl
key_of-name_of SaveSummary = refl
key_of-name_of SaveTargMet = refl
key_of-name_of SaveSumSoln = refl
key_of-name_of SaveTurns = refl
key_of-name_of ClumpType = refl
key_of-name_of CostThresh = refl
key_of-name_of Asymmetric = refl

some_same : {A : Type 0} (a b : A) → Some a ≡ Some b → a ≡ b
some_same a b e = cc

-- no two keys share a name
pub same_from_names : (a b : Key) → name_of a ≡ name_of b → a ≡ b
same_from_names a b e = some_same a b (sym (key_of-name_of a) ∙ (ap key_of e ∙ key_of-name_of b))
