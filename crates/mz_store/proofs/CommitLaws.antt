-- What a commit leaves of a pass.
use Rattle.std.proofs.Common.{◌≡◌, ℕ, ◌+◌, ◌≤◌, List, [], ◌++◌, length, Option, None, refl, sym, ap, ◌∙◌, subst, arith}
use Rattle.std.specs.List.{All}
use Rattle.std.proofs.lemmas.List.Elements.{All-cons, All-nil, All-weaker}
use Rattle.std.proofs.lemmas.Option.{none-some}
use Rattle.mz_board.specs.Chair.{ChairState, Takes, with_turn}
use Rattle.mz_board.specs.Seen.{GrewByOthers}
use Rattle.mz_draw.specs.declared.draw.Draw.{Draw}
use Rattle.mz_draw.specs.Draws.{draw_at}
use Rattle.mz_model.specs.Zones.{counts_of, free_units}
use Rattle.mz_delta.specs.declared.judged.Judged.{Judged}
use Rattle.mz_delta.specs.declared.reading.Reading.{Reading}
use Rattle.mz_delta.specs.Judged.{IsRight}
use Rattle.mz_history.specs.declared.entry.Entry.{Entry}
use Rattle.mz_history.specs.Core.{entry_of_seat, next_draw, seats_of}
use Rattle.mz_history.specs.History.{entries_of_seat}
use Rattle.mz_history.specs.Replay.{Setting, turns_of}
use Rattle.mz_history.specs.Verdict as core
use Rattle.mz_history.specs.Verdict.{again, decided, full}
use Rattle.mz_history.specs.World.{IsJournal}
use Rattle.mz_state.specs.Kept.{KeptState}
use Rattle.mz_state.specs.Looks.{IsRightFor}
use Rattle.mz_store.specs.declared.held.Held.{Held}
use Rattle.mz_store.specs.declared.store.commits.Turn.{Turn}
use Rattle.mz_store.specs.declared.told.Told.{Told}
use Rattle.mz_store.specs.declared.verdict.Verdict.{Verdict}
use Rattle.mz_store.specs.contracts.held.HeldStory.TheImpl.{ghosts}
use Rattle.mz_store.specs.declared.verdict.TryVerdict.{TryVerdict}
use Rattle.mz_store.specs.declared.verdict.Verdict.TheVariants.{Again, Decided, Full}
use Rattle.mz_store.specs.Commits.{Commits, CommitsAtOnce, Tries}
use Rattle.mz_store.specs.Pass.{draw_of, IsPass, pass_of, PassState, Room}
use Rattle.mz_store.specs.RunSetting.{run_of, RunSetting}
use Rattle.mz_store.specs.Store.{IsStore, StoreState}
use Rattle.mz_store.specs.Told.{told_all, untold}
use Rattle.mz_store.specs.Turns.{Decides, ended}
use Rattle.mz_store.specs.Verdict.{added, answer_of, try_of, verdict_on}
use Rattle.mz_store.proofs.AppendLaws.{run-is}
use Rattle.mz_store.proofs.OwnLaws.{added-own, added-turns, grew-own, grew-turns, OfSeat, untold-grew}
use Rattle.mz_store.proofs.ToldLaws.{length-told, untold-told}

draw-number : (seed run seat : ℕ) (free counts : List ℕ) (k : ℕ) → (draw_at seed run seat free counts k).number ≡ k
unfolding draw_at
draw-number seed run seat free counts k = refl

-- the entry that is added is of the seat's next draw
answer-draw : (s : Setting) (history : List Entry) (seat : ℕ) (v : core.Verdict) → All (λ (e : Entry). (e.seat ≡ seat) × (e.number ≡ turns_of seat (seats_of history))) (added (answer_of s history seat v))
answer-draw s history seat full = All-nil (λ (e : Entry). (e.seat ≡ seat) × (e.number ≡ turns_of seat (seats_of history)))
answer-draw s history seat (again position) = All-nil (λ (e : Entry). (e.seat ≡ seat) × (e.number ≡ turns_of seat (seats_of history)))
answer-draw s history seat decided =
    All-cons (λ (e : Entry). (e.seat ≡ seat) × (e.number ≡ turns_of seat (seats_of history))) (entry_of_seat s history seat) [] (refl, draw-number s.seed s.run seat (free_units s.parts) (counts_of s.parts) (turns_of seat (seats_of history)))
    (All-nil (λ (e : Entry). (e.seat ≡ seat) × (e.number ≡ turns_of seat (seats_of history))))

-- a chair that took a list and put one back
abbrev pub after_turn : ChairState Told RunSetting → List Told → ℕ → ℕ → List Told → ChairState Told RunSetting
after_turn chair list tries found last = ended (record (with_turn chair list) { tries = tries; found = found }) last

-- what is known of a pass before a commit, and what it took
pub record Taken (now : StoreState) (chair : ChairState Told RunSetting) (seat number reached : ℕ) (last : Option Reading) (room : Room) (old : PassState) (held : Held) : Type 0 where
  pub store : IsStore now
  pub pass : IsPass chair seat number reached last room
  pub old_is : pass_of chair number reached last ≡ old
  pub here : old.store ≡ now.board
  pub takes : Takes ghosts chair held

module _ (now : StoreState) (chair : ChairState Told RunSetting) (seat number reached : ℕ) (last : Option Reading) (room : Room) (old : PassState) (held : Held) (taken : Taken now chair seat number reached last room old held) where
  abbrev k : KeptState
  k = held.kept.value

  run-same : run_of k ≡ now.run
  run-same = run-is now chair.lock (run_of k) taken.store (ap (λ (p : PassState). p.store) taken.old_is ∙ taken.here) taken.takes.setting_is

  grew : GrewByOthers (λ (e : Entry). e.seat) chair.number (untold chair.seen) k.journal
  grew = subst (λ (es : List Entry). GrewByOthers (λ (e : Entry). e.seat) chair.number (untold chair.seen) es) (untold-told k.setting k.journal) (untold-grew chair.number chair.seen (told_all k.setting k.journal) taken.takes.learns.seen)

  -- the next draw is that of the journal that was taken
  number-is : number ≡ turns_of chair.number (seats_of k.journal)
  number-is = taken.pass.number_is ∙ sym (grew-turns chair.number (untold chair.seen) k.journal grew)

  pub judged-next : (mid : ChairState Told RunSetting) (reading : Reading) (judged : Judged) → mid.number ≡ chair.number → IsRight now.run.setting.parts reading (draw_of now.run old) judged
      → IsRight now.run.setting.parts reading (next_draw now.run.setting.parts now.run.setting.seed now.run.setting.run k.journal mid.number) judged
  judged-next mid reading judged same right =
      let s = now.run.setting in
      let own : draw_of now.run old ≡ next_draw s.parts s.seed s.run k.journal mid.number =
      ap (draw_of now.run) (sym taken.old_is) ∙ ap (λ n. draw_at s.seed s.run chair.number (free_units s.parts) (counts_of s.parts) n) number-is
      ∙ ap (λ n. next_draw s.parts s.seed s.run k.journal n) (sym same) in
      subst (λ (d : Draw). IsRight s.parts reading d judged) own right

module _ (now : StoreState) (chair : ChairState Told RunSetting) (seat number reached : ℕ) (last : Option Reading) (room : Room) (old : PassState) (held : Held) (taken : Taken now chair seat number reached last room old held)
    (mid new : ChairState Told RunSetting) (reading : Reading) (turn : Turn) (tries found : ℕ) where
  abbrev j : List Entry
  j = held.kept.value.journal

  abbrev after : List Entry
  after = j ++ added turn.verdict

  abbrev Decided_ : Type 0
  Decided_ = Decides now.run mid new (told_all held.kept.value.setting after) held.kept.value reading turn

  abbrev Mid : Type 0
  Mid = mid ≡ record (with_turn chair (told_all held.kept.value.setting j)) { tries = tries; found = found }

  new-is : Mid → Decided_ → new ≡ after_turn chair (told_all held.kept.value.setting j) tries found (told_all held.kept.value.setting after)
  new-is m d = d.now ∙ ap (λ (c : ChairState Told RunSetting). ended c (told_all held.kept.value.setting after)) m

  mid-number : Mid → mid.number ≡ chair.number
  mid-number m = ap (λ (c : ChairState Told RunSetting). c.number) m

  draws : Mid → Decided_ → All (λ (e : Entry). (e.seat ≡ chair.number) × (e.number ≡ number)) (added turn.verdict)
  draws m d =
      let all = answer-draw held.kept.value.setting j mid.number (verdict_on now.run j reading) in
      let own : All (λ (e : Entry). (e.seat ≡ mid.number) × (e.number ≡ turns_of mid.number (seats_of j))) (added turn.verdict) = subst (λ (v : Verdict). All (λ (e : Entry). (e.seat ≡ mid.number) × (e.number ≡ turns_of mid.number (seats_of j))) (added v)) (sym d.verdict_is) all in
      let there : All (λ (e : Entry). (e.seat ≡ chair.number) × (e.number ≡ turns_of chair.number (seats_of j))) (added turn.verdict) = subst (λ n. All (λ (e : Entry). (e.seat ≡ n) × (e.number ≡ turns_of n (seats_of j))) (added turn.verdict)) (mid-number m) own in
      subst (λ n. All (λ (e : Entry). (e.seat ≡ chair.number) × (e.number ≡ n)) (added turn.verdict)) (sym (number-is now chair seat number reached last room old held taken)) there

  own-added : Mid → Decided_ → OfSeat chair.number (added turn.verdict)
  own-added m d = All-weaker (λ (e : Entry). (e.seat ≡ chair.number) × (e.number ≡ number)) (λ (e : Entry). e.seat ≡ chair.number) (λ e both. both.0) (added turn.verdict) (draws m d)

  next-number : Mid → Decided_ → turn.number ≡ number + length (added turn.verdict)
  next-number m d =
      d.number_is ∙ ap (λ n. turns_of n (seats_of after)) (mid-number m) ∙ added-turns chair.number j (added turn.verdict) (own-added m d)
      ∙ ap (λ n. n + length (added turn.verdict)) (sym (number-is now chair seat number reached last room old held taken))

  -- the pass is whole again
  pub committed-pass : Mid → Decided_ → IsPass new seat turn.number turn.length None room
  committed-pass m d =
      let list = told_all held.kept.value.setting after in let pass = taken.pass in
      subst (λ (c : ChairState Told RunSetting). IsPass c seat turn.number turn.length None room) (sym (new-is m d)) (record {
        idle = refl;
        own = refl;
        told = refl;
        seat_is = pass.seat_is;
        within = pass.within;
        number_is = d.number_is ∙ ap (λ n. turns_of n (seats_of after)) (mid-number m) ∙ ap (λ (es : List Entry). turns_of chair.number (seats_of es)) (sym (untold-told held.kept.value.setting after));
        reached_is = d.length_is ∙ sym (length-told held.kept.value.setting after);
        least = omega arith;
        read = λ (other : Reading) (run : RunSetting) it known. absurd (none-some other it);
        room_is = pass.room_is;
        unused = pass.unused;
      })

  state-is : (c : ChairState Told RunSetting) (list list' : List Told) (es : List Entry) (m n : ℕ) → c ≡ after_turn chair list tries found list' → untold list' ≡ es → m ≡ length es → n ≡ number + length (added turn.verdict)
      → pass_of c n m None ≡ record (pass_of chair number reached last) { seen = es; reached = length es; number = number + length (added turn.verdict); reading = None; tries = c.tries; found = c.found }
  state-is c list list' es m n is seen count next =
      subst (λ (c : ChairState Told RunSetting). pass_of c n m None ≡ record (pass_of chair number reached last) { seen = es; reached = length es; number = number + length (added turn.verdict); reading = None; tries = c.tries; found = c.found }) (sym is)
      (λ i. record (pass_of chair number reached last) { seen = seen i; reached = count i; number = next i; reading = None; tries = tries; found = found })

  -- and contracts see the commit
  pub committed-commits : Mid → Decided_ → chair.tries ≤ tries → Commits now.run old (pass_of new turn.number turn.length None) reading turn.verdict
  committed-commits m d more =
      let s = held.kept.value.setting in let same = run-same now chair seat number reached last room old held taken in
      let grown = grew now chair seat number reached last room old held taken in
      let many : reached ≤ length j = omega (arith, taken.takes.reads.reached, taken.pass.reached_is, length-told s j) in
      let seen : untold new.seen ≡ after = ap (λ (c : ChairState Told RunSetting). untold c.seen) (new-is m d) ∙ untold-told s after in
      let tried : new.tries ≡ tries = ap (λ (c : ChairState Told RunSetting). c.tries) (new-is m d) in
      subst (λ (p : PassState). Commits now.run p (pass_of new turn.number turn.length None) reading turn.verdict) taken.old_is (record {
        history = j;
        finds = record {
          journal = subst (λ (r : RunSetting). IsJournal r.setting r.limit r.seats j) same d.kept.journal;
          seen = grown;
          least = many;
        };
        right = subst (λ (r : RunSetting). IsRightFor r.setting j reading) same d.right;
        verdict_is = d.verdict_is ∙ ap (λ (r : RunSetting). answer_of r.setting j mid.number (verdict_on now.run j reading)) same
            ∙ ap (λ n. answer_of now.run.setting j n (verdict_on now.run j reading)) (mid-number m);
        draw = draws m d;
        own = ap (entries_of_seat chair.number) seen ∙ added-own chair.number j (added turn.verdict) (own-added m d)
            ∙ ap (λ (es : List Entry). es ++ added turn.verdict) (grew-own chair.number (untold chair.seen) j grown);
        tries = omega (arith, more, tried);
        now = state-is new (told_all s j) (told_all s after) after turn.length turn.number (new-is m d) (untold-told s after) d.length_is (next-number m d);
      })

  -- where the first try found the turn free
  pub committed-at_once : Mid → Decided_ → tries ≡ chair.tries → found ≡ chair.found → CommitsAtOnce now.run old (pass_of new turn.number turn.length None) reading turn.verdict
  committed-at_once m d same_tries same_found = record {
    commits = committed-commits m d (omega arith);
    tries = ap (λ (c : ChairState Told RunSetting). c.tries) (new-is m d) ∙ same_tries ∙ ap (λ (p : PassState). p.tries) taken.old_is;
    found = ap (λ (c : ChairState Told RunSetting). c.found) (new-is m d) ∙ same_found ∙ ap (λ (p : PassState). p.found) taken.old_is;
  }

tries-once : (run : RunSetting) (old new : PassState) (reading : Reading) (verdict : Verdict) → CommitsAtOnce run old new reading verdict → Tries run old new reading (try_of verdict)
tries-once run old new reading (Decided receipt) commits = commits
tries-once run old new reading (Again position) commits = commits
tries-once run old new reading Full commits = commits

pub tried-once : (run : RunSetting) (old new : PassState) (reading : Reading) (verdict : Verdict) (result : TryVerdict) → result ≡ try_of verdict → CommitsAtOnce run old new reading verdict → Tries run old new reading result
tried-once run old new reading verdict result is commits = subst (Tries run old new reading) (sym is) (tries-once run old new reading verdict commits)
