-- A chair whose tries for the turn failed some times.
use Rattle.std.proofs.Common.{◌≡◌, ◌+◌, ◌≤◌, ℕ, List, sym, refl, ap, ◌∙◌, subst, inl, inr, arith}
use Rattle.std.specs.Prelude.{◌≢◌, ◌<◌}
use Rattle.mz_turn.specs.Chair.{ChairState, FailedTries, FoundAnother, LockId, Takes, TookTurn, Misses, with_turn}

-- some tries failed, and nothing else changed
pub record Waits {E S : Type 0} (old new : ChairState E S) : Type 0 where
  pub now : new ≡ record old { tries = new.tries; found = new.found }
  pub tries : old.tries ≤ new.tries
  pub failed : FailedTries old new

module _ {E S : Type 0} where
  pub waits_none : (chair : ChairState E S) → Waits chair chair
  waits_none chair = record { now = refl; tries = omega arith; failed = inl (refl, refl) }

  found_another : (old chair new : ChairState E S) (other : ℕ) → Waits old chair → Misses chair new other → FoundAnother old new.found
  found_another old chair new other w m = record {
    other = other;
    word_is = ap (λ (c : ChairState E S). c.found) m.now;
    apart = subst (λ n. other ≢ n) (ap (λ (c : ChairState E S). c.number) w.now) m.apart;
    within = subst (λ (l : LockId E S). other < l.seats) (ap (λ (c : ChairState E S). c.lock) w.now) m.chair;
  }

  failed_with : (old chair new : ChairState E S) → new.tries ≡ chair.tries → new.found ≡ chair.found → FailedTries old chair → FailedTries old new
  failed_with old chair new tries found failed =
      elim failed [
        | inl none_failed ↦ inl (tries ∙ none_failed.0, found ∙ none_failed.1)
        | inr some_failed ↦ inr (let more = some_failed.0 in omega arith, subst (FoundAnother old) (sym found) some_failed.1)
      ]

  pub waits_more : (old chair new : ChairState E S) (other : ℕ) → Waits old chair → Misses chair new other → Waits old new
  waits_more old chair new other w m = record {
    now = m.now ∙ (ap (λ (c : ChairState E S). record c { tries = chair.tries + 1; found = other + 1 }) w.now ∙ λ i. record old { tries = (sym m.now i).tries; found = (sym m.now i).found });
    tries = let t : new.tries ≡ chair.tries + 1 = ap (λ (c : ChairState E S). c.tries) m.now in omega (arith, w.tries);
    failed = inr (let t : new.tries ≡ chair.tries + 1 = ap (λ (c : ChairState E S). c.tries) m.now in omega (arith, w.tries), found_another old chair new other w m);
  }

  pub took_turn : (old chair new : ChairState E S) (list : List E) → Waits old chair → new ≡ with_turn chair list → TookTurn old new list
  took_turn old chair new list w is = record {
    now = is ∙ (ap (λ (c : ChairState E S). with_turn c list) w.now ∙ λ i. record (with_turn old list) { tries = (sym is i).tries; found = (sym is i).found });
    tries = let t : new.tries ≡ chair.tries = ap (λ (c : ChairState E S). c.tries) is in omega (arith, w.tries);
    failed = failed_with old chair new (ap (λ (c : ChairState E S). c.tries) is) (ap (λ (c : ChairState E S). c.found) is) w.failed;
  }

  -- what a take gives doesn't depend on the failed tries before it
  pub takes_after : {T : Type 0} (entries : T → List E) (owner : E → ℕ) (setting : T → S) (old chair : ChairState E S) (value : T) → Waits old chair → Takes entries owner setting chair value → Takes entries owner setting old value
  takes_after entries owner setting old chair value w t =
      let u : Takes entries owner setting (record old { tries = chair.tries; found = chair.found }) value = subst (λ c. Takes entries owner setting c value) w.now t in
      record { setting_is = u.setting_is; learns = record { seen = u.learns.seen; own = u.learns.own; told = u.learns.told }; added = u.added }
