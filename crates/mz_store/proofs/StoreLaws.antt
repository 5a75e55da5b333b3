-- What a store keeps, as its calls use it.
use Rattle.std.proofs.Common.{◌≡◌, ℕ, ◌+◌, ◌<◌, ◌≤◌, ◌^◌, true, false, [], length, length-append, Some, refl, sym, ap, ◌∙◌, subst, arith}
use Rattle.std.specs.Prelude.{IsTrue, if◌then◌else◌, nat_le, nat_lt}
use Rattle.std.proofs.lemmas.Bool.Decides.{nat_tests}
use Rattle.mz_board.specs.Chair.{BoardId}
use Rattle.mz_model.specs.declared.parts.Parts.{Parts}
use Rattle.mz_model.specs.Parts.{target_count, unit_count}
use Rattle.mz_model.specs.Valid.{IsValid}
use Rattle.mz_model.specs.Zones.{is_allowed}
use Rattle.mz_model.proofs.ZoneLaws.{is_allowed-in_range}
use Rattle.mz_delta.specs.Reading.{totals_of_plan}
use Rattle.mz_delta.proofs.ReadLaws.{length-totals_of_plan}
use Rattle.mz_history.specs.Replay.{Setting}
use Rattle.mz_history.specs.Start.{starting_plan}
use Rattle.mz_history.proofs.LegalHistoryLaws.{last_plan-legal, legal-none}
use Rattle.mz_store.specs.RunSetting.{RunSetting}
use Rattle.mz_store.specs.Store.{IsStore, StoreState}
use Rattle.mz_store.specs.Words.{may_have, opening_words}

pub store-now : (k now : StoreState) → k ≡ now → IsStore k → IsStore now
store-now k now same is = subst IsStore same is

pub length-opening : (s : Setting) → IsValid s.parts → length (opening_words s) ≡ unit_count s.parts + target_count s.parts
length-opening s valid =
    let plan = starting_plan s.parts s.prop s.seed s.run in
    let whole = (last_plan-legal s [] valid (legal-none s)).whole in
    let rows = length-totals_of_plan s.parts plan (totals_of_plan s.parts plan) refl in
    omega (arith, length-append plan (totals_of_plan s.parts plan), whole, rows)

pub length-words : (now : StoreState) (lock : BoardId RunSetting) → IsStore now → lock ≡ now.board → length lock.opening ≡ unit_count now.run.setting.parts + target_count now.run.setting.parts
length-words now lock is here = ap (λ (b : BoardId RunSetting). length b.opening) here ∙ ap length is.opening_is ∙ length-opening now.run.setting is.valid

-- the words of units and of target rows stand on the board
pub unit-word : (k now : StoreState) (lock : BoardId RunSetting) (unit : ℕ) → k ≡ now → IsStore k → lock ≡ now.board → unit < unit_count now.run.setting.parts → unit < length lock.opening
unit-word k now lock unit same is here within = omega (arith, within, length-words now lock (store-now k now same is) here)

pub row-word : (k now : StoreState) (lock : BoardId RunSetting) (units row : ℕ) → k ≡ now → IsStore k → lock ≡ now.board → units ≡ unit_count k.run.setting.parts → row < target_count now.run.setting.parts → units + row < length lock.opening
row-word k now lock units row same is here count within =
    omega (arith, within, length-words now lock (store-now k now same is) here, count ∙ ap (λ (s : StoreState). unit_count s.run.setting.parts) same)

pub run-known : (now : StoreState) (lock : BoardId RunSetting) → IsStore now → lock ≡ now.board → lock.setting ≡ Some now.run
run-known now lock is here = ap (λ (b : BoardId RunSetting). b.setting) here ∙ is.setting_is

-- what a word may have
pub may-zone : (parts : Parts) (unit value : ℕ) → unit < unit_count parts → may_have parts unit value ≡ true → IsTrue (is_allowed parts unit value)
may-zone parts unit value within may = let test : nat_lt unit (unit_count parts) ≡ true = grind (arith, nat_tests) in
    sym (ap (λ b. if b then is_allowed parts unit value else nat_le value (10 ^ 18)) test) ∙ may

pub may-total : (parts : Parts) (word value : ℕ) → unit_count parts ≤ word → may_have parts word value ≡ true → value ≤ 10 ^ 18
may-total parts word value past may = let test : nat_lt word (unit_count parts) ≡ false = grind (arith, nat_tests) in
    let small : nat_le value (10 ^ 18) ≡ true = sym (ap (λ b. if b then is_allowed parts word value else nat_le value (10 ^ 18)) test) ∙ may in grind (arith, nat_tests)

pub zone-small : (now : StoreState) (lock : BoardId RunSetting) (unit value : ℕ) → IsStore now → lock ≡ now.board → unit < unit_count now.run.setting.parts
    → ((setting : RunSetting) → lock.setting ≡ Some setting → may_have setting.setting.parts unit value ≡ true) → value < 60
zone-small now lock unit value is here within may =
    let allowed = may-zone now.run.setting.parts unit value within (may now.run (run-known now lock is here)) in
    omega (arith, is_allowed-in_range now.run.setting.parts unit value is.valid within allowed, is.valid.small.zones)
