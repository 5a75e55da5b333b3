-- What a store leaves.
use Rattle.std.proofs.Common.{◌≡◌, ℕ, ◌≤◌, List, length, get_or, Some, sym, ap, ◌∙◌, subst, arith}
use Rattle.std.specs.List.{All}
use Rattle.std.proofs.lemmas.List.Elements.{All-contains, Contains-get_or}
use Rattle.mz_board.specs.Chair as lock
use Rattle.mz_board.specs.Chair.{BoardId, ChairState, Learns}
use Rattle.mz_board.specs.Seen.{GrewByOthers}
use Rattle.mz_model.specs.declared.score.Score.{Score}
use Rattle.mz_history.specs.declared.entry.Entry.{Entry}
use Rattle.mz_state.specs.Closed.{IsClosed}
use Rattle.mz_state.specs.Kept.{KeptState}
use Rattle.mz_store.specs.declared.held.Held.{Held}
use Rattle.mz_store.specs.declared.told.Told.{Told}
use Rattle.mz_store.specs.Gathered.{AreGathered, Knows}
use Rattle.mz_store.specs.Leaves.{AreAllOf, Closes, Holds}
use Rattle.mz_store.specs.Pass.{PassState}
use Rattle.mz_store.specs.RunSetting.{run_of, RunSetting}
use Rattle.mz_store.specs.Store.{IsStore, StoreState}
use Rattle.mz_store.specs.Told.{seat_of, told_all, untold, WordsFollow}
use Rattle.mz_store.proofs.AppendLaws.{run-is}
use Rattle.mz_store.proofs.OwnLaws.{grew-own, untold-grew}
use Rattle.mz_store.proofs.StoreLaws.{store-now}
use Rattle.mz_store.proofs.ToldLaws.{length-told, untold-told}
use Rattle.mz_store.proofs.WordLaws.{words-follow}

-- the chairs of all passes are all chairs
pub all-chairs : (k now : StoreState) (passes : List PassState) (chairs : List (ChairState Told RunSetting)) → k ≡ now → IsStore k → AreAllOf now passes → AreGathered k.board passes chairs → lock.AreAllOf k.board chairs
all-chairs k now passes chairs same is all gathered = record {
  here = gathered.idle;
  every = λ number h.
      let count : k.board.seats ≡ now.run.seats = is.seats_are ∙ ap (λ (s : StoreState). s.run.seats) same in
      let pass = all.every number (omega (arith, h, count)) in
      let found = gathered.each pass.0 pass.1 in (found.0, found.1, found.2.seat ∙ pass.2);
}

pub same-passes : (k now : StoreState) (passes : List PassState) → k ≡ now → IsStore k → AreAllOf now passes → (All (λ (pass : PassState). pass.store ≡ k.board) passes) × (1 ≤ length passes) × (length passes ≤ k.board.seats)
same-passes k now passes same is all =
    let count : k.board.seats ≡ now.run.seats = is.seats_are ∙ ap (λ (s : StoreState). s.run.seats) same in (
      λ i d h. all.here i d h ∙ ap (λ (s : StoreState). s.board) (sym same),
      omega (arith, is.some_seat, is.seats_are, count, all.count),
      omega (arith, count, all.count),
    )

-- what one pass has
holds-pass : (list : List Told) (journal : List Entry) (chair : ChairState Told RunSetting) (pass : PassState) → untold list ≡ journal → length list ≡ length journal → Knows pass chair → Learns seat_of chair list → chair.post.reached ≤ length list → Holds journal pass
holds-pass list journal chair pass is count knows learns few =
    let grew : GrewByOthers (λ (e : Entry). e.seat) chair.number (untold chair.seen) (untold list) = untold-grew chair.number chair.seen list learns.seen in
    let seat : GrewByOthers (λ (e : Entry). e.seat) pass.seat (untold chair.seen) (untold list) = subst (λ n. GrewByOthers (λ (e : Entry). e.seat) n (untold chair.seen) (untold list)) knows.seat grew in
    let seen : GrewByOthers (λ (e : Entry). e.seat) pass.seat pass.seen (untold list) = subst (λ (es : List Entry). GrewByOthers (λ (e : Entry). e.seat) pass.seat es (untold list)) knows.seen seat in
    let whole : GrewByOthers (λ (e : Entry). e.seat) pass.seat pass.seen journal = subst (λ (es : List Entry). GrewByOthers (λ (e : Entry). e.seat) pass.seat pass.seen es) is seen in record {
      seen = record { rest = whole.rest; is = whole.is };
      own = grew-own pass.seat pass.seen journal whole;
      least = omega (arith, few, count, knows.reached);
    }

pub closes : (k now : StoreState) (passes : List PassState) (chairs : List (ChairState Told RunSetting)) (held : Held) (state : KeptState) (journal : List Entry) (plan totals : List ℕ) (score : Score) → k ≡ now → IsStore k
    → AreGathered k.board passes chairs → k.board.setting ≡ Some (run_of held.kept.value) → All (λ (chair : ChairState Told RunSetting). Learns seat_of chair (told_all held.kept.value.setting held.kept.value.journal)) chairs
    → All (λ (chair : ChairState Told RunSetting). chair.post.reached ≤ length (told_all held.kept.value.setting held.kept.value.journal)) chairs → state ≡ held.kept.value → IsClosed state journal plan totals score
    → Closes now passes journal plan totals score
closes k now passes chairs held state journal plan totals score same is gathered known lists few through closed =
    let store = store-now k now same is in
    let run : run_of state ≡ now.run = ap run_of through ∙ run-is now k.board (run_of held.kept.value) store (ap (λ (s : StoreState). s.board) same) known in
    let list = told_all held.kept.value.setting held.kept.value.journal in
    let own : held.kept.value.journal ≡ journal = ap (λ (x : KeptState). x.journal) (sym through) ∙ sym closed.journal_is in
    let state_is : state ≡ record { setting = now.run.setting; limit = now.run.limit; seats = now.run.seats; journal = journal } =
    ap (λ (r : RunSetting). record state { setting = r.setting; limit = r.limit; seats = r.seats }) run
    ∙ ap (λ (j : List Entry). record { setting = now.run.setting; limit = now.run.limit; seats = now.run.seats; journal = j }) (sym closed.journal_is) in
    let whole : IsClosed (record { setting = now.run.setting; limit = now.run.limit; seats = now.run.seats; journal = journal }) journal plan totals score = subst (λ (x : KeptState). IsClosed x journal plan totals score) state_is closed in
    record {
      closed = whole;
      holds = λ i d h.
          let found = gathered.each (get_or passes i d) (Contains-get_or passes i d h) in
          holds-pass list journal found.0 (get_or passes i d) (untold-told held.kept.value.setting held.kept.value.journal ∙ own) (length-told held.kept.value.setting held.kept.value.journal ∙ ap length own) found.2
          (All-contains (λ (chair : ChairState Told RunSetting). Learns seat_of chair list) chairs found.0 lists found.1)
          (All-contains (λ (chair : ChairState Told RunSetting). chair.post.reached ≤ length list) chairs found.0 few found.1);
      words = subst (λ (ws : List ℕ). WordsFollow now.run.setting ws journal) (sym store.opening_is) (words-follow now.run.setting journal whole.kept.valid whole.kept.journal.history whole.kept.journal.moves);
    }
