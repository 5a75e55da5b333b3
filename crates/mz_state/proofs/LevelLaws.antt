-- The level of the next entry.
use Rattle.std.proofs.Common.{◌≡◌, ℕ, ◌+◌, ◌<◌, List, [], ◌∷◌, ◌++◌, length, length-append, sym, ap, subst, ◌∙◌, arith}
use Rattle.mz_cool.specs.declared.level.Level.{Level}
use Rattle.mz_cool.specs.Level.{IsLevelFrom}
use Rattle.mz_cool.specs.Schedule.{Cooling, temperature_at}
use Rattle.mz_history.specs.declared.entry.Entry.{Entry}
use Rattle.mz_state.specs.Kept.{KeptState, KnowsLevel}

-- what is known of a state's level
abbrev pub KnowsItsLevel : KeptState → Level → Type 0
KnowsItsLevel k level = KnowsLevel k.setting.cooling k.limit (length k.journal) level

-- a level with no position is one of every position
pub level-over : (cooling : Cooling) (position : ℕ) → IsLevelFrom cooling position (record { temperature = 1; end = 0 })
level-over cooling position = record { each = λ p from before. absurd (omega (arith, before)); least = omega arith; most = omega arith }

-- at the opening
pub level-opened : (cooling now : Cooling) (limit limit' position : ℕ) (level : Level) → cooling ≡ now → limit ≡ limit' → position ≡ 0
    → IsLevelFrom now 0 level → (0 < limit' → 0 < level.end) → KnowsLevel cooling limit position level
level-opened cooling now limit limit' position level same limits none from here =
    subst (λ (n : ℕ). KnowsLevel cooling limit n level) (sym none) (record {
      from = subst (λ (c : Cooling). IsLevelFrom c 0 level) (sym same) from;
      here = λ some. here (omega (arith, some, limits));
    })

-- the temperature of the next entry
pub level-at : (k now : KeptState) (level : Level) (position : ℕ) → k ≡ now → KnowsItsLevel k level
    → position ≡ length now.journal → length now.journal < now.limit → level.temperature ≡ temperature_at now.setting.cooling position
level-at k now level position same knows at few =
    let here = subst (λ (k : KeptState). KnowsItsLevel k level) same knows in
    here.from.each position (omega (arith, at)) (omega (arith, at, here.here few))

-- the level before the next entry, behind it
pub level-behind : (k now : KeptState) (level : Level) (cooling : Cooling) (position : ℕ) → k ≡ now → KnowsItsLevel k level
    → cooling ≡ now.setting.cooling → position ≡ length now.journal → IsLevelFrom cooling (position + 1) level
level-behind k now level cooling position same knows cools at =
    let here = subst (λ (k : KeptState). KnowsItsLevel k level) same knows in
    subst (λ (c : Cooling). IsLevelFrom c (position + 1) level) (sym cools) (record {
      each = λ p from before. here.from.each p (omega (arith, at, from)) before;
      least = here.from.least;
      most = here.from.most;
    })

-- and the level of the entry after it
pub level-next : (k now : KeptState) (level : Level) (cooling : Cooling) (limit position : ℕ) (journal : List Entry) (entry : Entry) → k ≡ now
    → cooling ≡ now.setting.cooling → limit ≡ k.limit → position ≡ length now.journal → journal ≡ k.journal ++ entry ∷ [] → IsLevelFrom cooling (position + 1) level
    → (position + 1 < limit → position + 1 < level.end) → KnowsLevel k.setting.cooling k.limit (length journal) level
level-next k now level cooling limit position journal entry same cools limits at more from here =
    let own : cooling ≡ k.setting.cooling = cools ∙ sym (ap (λ (k : KeptState). k.setting.cooling) same) in
    let before : length k.journal ≡ length now.journal = ap (λ (k : KeptState). length k.journal) same in
    let count : length journal ≡ position + 1 = omega (arith, ap length more, length-append k.journal (entry ∷ []), at, before) in
    subst (λ (n : ℕ). KnowsLevel k.setting.cooling k.limit n level) (sym count) (record {
      from = subst (λ (c : Cooling). IsLevelFrom c (position + 1) level) own from;
      here = λ some. here (omega (arith, some, limits));
    })
