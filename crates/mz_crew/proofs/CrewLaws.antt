-- The workers of a store: how they are made, and what they leave together.
use Rattle.std.proofs.Common.{◌≡◌, ℕ, ◌+◌, ◌<◌, ◌≤◌, List, [], ◌∷◌, ◌++◌, length, length-append, get_or, sym, ap, ◌∙◌, subst, arith, inl, inr}
use Rattle.std.specs.Prelude.{slice_index_or}
use Rattle.std.specs.List.{All}
use Rattle.std.proofs.Math.Seq.{get_or-append_seam}
use Rattle.std.proofs.lemmas.List.{get_or_append_left}
use Rattle.std.proofs.lemmas.List.Elements.{All-contains, All-nil, All-push, Contains-get_or}
use Rattle.std.proofs.lemmas.Bool.{cases_lt}
use Rattle.std.proofs.lemmas.Option.{get_or_from_slice_get}
use Rattle.crossbeam_utils.specs.declared.cache_padded.CachePadded.{CachePadded}
use Rattle.crossbeam_utils.specs.Padded.{padded_value}
use Rattle.mz_board.specs.Chair.{BoardId}
use Rattle.mz_model.specs.declared.parts.Parts.{Parts}
use Rattle.mz_model.specs.declared.score.Score.{Score}
use Rattle.mz_history.specs.declared.entry.Entry.{Entry}
use Rattle.mz_history.specs.Replay.{Setting}
use Rattle.mz_state.specs.Closed.{IsClosed}
use Rattle.mz_store.specs.Leaves.{Closes, Holds}
use Rattle.mz_store.specs.Pass.{AreFresh, fresh_pass, PassState}
use Rattle.mz_store.specs.RunSetting.{RunSetting}
use Rattle.mz_store.specs.Store.{StoreState}
use Rattle.mz_crew.specs.declared.worker.Worker.{Worker}
use Rattle.mz_crew.specs.Crew.{AreDone, AreReady, IsAnnealed, IsDone, IsReady}

abbrev pub seat_of_worker : CachePadded Worker → ℕ
seat_of_worker worker = (padded_value worker).pass.seat

-- ---- workers are made

-- the workers of the first seats
pub record ReadyBelow (store : StoreState) (parts : Parts) (n : ℕ) (workers : List (CachePadded Worker)) : Type 0 where
  pub count : length workers ≡ n
  pub ready : All (IsReady store parts) workers
  pub seats : (seat : ℕ) (default : CachePadded Worker) → seat < length workers → seat_of_worker (slice_index_or workers seat default) ≡ seat

pub ready-none : (store : StoreState) (parts : Parts) (n : ℕ) (workers : List (CachePadded Worker)) → n ≡ 0 → workers ≡ [] → ReadyBelow store parts n workers
ready-none store parts n workers zero none = record {
  count = ap length none ∙ sym zero;
  ready = subst (All (IsReady store parts)) (sym none) (All-nil (IsReady store parts));
  seats = λ seat default h. absurd (omega (arith, h, ap length none));
}

-- the pass of a place
pub fresh-at : (store : BoardId RunSetting) (seats n : ℕ) (passes : List PassState) (pass : PassState) → AreFresh store seats passes → n < length passes → pass ≡ get_or passes n pass → pass ≡ fresh_pass store n
fresh-at store seats n passes pass fresh within at = at ∙ get_or_from_slice_get passes n (fresh_pass store n) pass (fresh.each n (omega (arith, within, fresh.count)))

-- one worker more
pub ready-more : (store : StoreState) (parts : Parts) (n m : ℕ) (workers workers' : List (CachePadded Worker)) (worker : CachePadded Worker) → ReadyBelow store parts n workers → IsReady store parts worker → seat_of_worker worker ≡ n → workers' ≡ workers ++ worker ∷ [] → m ≡ n + 1
    → ReadyBelow store parts m workers'
ready-more store parts n m workers workers' worker so_far ready seat pushed next = record {
  count = omega (arith, ap length pushed, length-append workers (worker ∷ []), so_far.count, next);
  ready = subst (All (IsReady store parts)) (sym pushed) (All-push (IsReady store parts) workers worker so_far.ready ready);
  seats = λ place default h.
      let at : slice_index_or workers' place default ≡ get_or (workers ++ worker ∷ []) place default = ap (λ (ws : List (CachePadded Worker)). get_or ws place default) pushed in
      let few : place < length workers + 1 = omega (arith, h, ap length pushed, length-append workers (worker ∷ [])) in
      ap seat_of_worker at ∙ elim (cases_lt place (length workers)) [
        | inl below ↦ ap seat_of_worker (get_or_append_left workers (worker ∷ []) default place below) ∙ so_far.seats place default below
        | inr past ↦
            let last : place ≡ length workers = omega (arith, few, past) in
            ap seat_of_worker (ap (λ k. get_or (workers ++ worker ∷ []) k default) last ∙ get_or-append_seam workers worker [] default) ∙ seat ∙ sym so_far.count ∙ sym last
      ];
}

pub ready-all : (store : StoreState) (parts : Parts) (n : ℕ) (workers : List (CachePadded Worker)) → ReadyBelow store parts n workers → n ≡ store.run.seats → AreReady store parts workers
ready-all store parts n workers below all = record { count = below.count ∙ all; ready = below.ready; seats = below.seats }

-- ---- workers are done

-- what a thread gives back for the worker of a place
abbrev pub GaveBack : StoreState → List (CachePadded Worker) → ℕ → PassState → Type 0
GaveBack store workers place pass = (worker : CachePadded Worker) × ((default : CachePadded Worker) → slice_index_or workers place default ≡ worker) × IsDone store worker pass

pub all-done : (store : StoreState) (parts : Parts) (workers : List (CachePadded Worker)) (passes : List PassState) → AreReady store parts workers → length passes ≡ length workers
    → ((place : ℕ) (default : PassState) → place < length workers → GaveBack store workers place (slice_index_or passes place default)) → AreDone store passes
all-done store parts workers passes ready count gave = record {
  all = record {
    count = count ∙ ready.count;
    here = λ place default h. (gave place default (omega (arith, h, count))).2.here;
    every = λ seat h.
        let none = fresh_pass store.board 0 in
        let within : seat < length workers = omega (arith, h, ready.count) in
        let back = gave seat none within in
        (slice_index_or passes seat none, Contains-get_or passes seat none (omega (arith, within, count)), back.2.seat_is ∙ ap seat_of_worker (sym (back.1 back.0)) ∙ ready.seats seat back.0 within);
  };
  whole = λ place default h. (gave place default (omega (arith, h, count))).2.whole;
}

-- ---- the store is closed

pub annealed : (store : StoreState) (s : Setting) (limit seats : ℕ) (passes : List PassState) (journal : List Entry) (plan totals : List ℕ) (score : Score) → store.run ≡ record { setting = s; limit = limit; seats = seats } → 1 ≤ seats
    → AreDone store passes → Closes store passes journal plan totals score → IsAnnealed s limit seats journal plan totals score
annealed store s limit seats passes journal plan totals score is some done closes =
    let first = done.all.every 0 (omega (arith, some, ap (λ (r : RunSetting). r.seats) is)) in
    let holds = All-contains (Holds journal) passes first.0 closes.holds first.1 in
    let seen = All-contains (λ (p : PassState). length p.seen ≡ store.run.limit) passes first.0 done.whole first.1 in
    let long : length first.0.seen + length holds.seen.rest ≡ length journal = sym (length-append first.0.seen holds.seen.rest) ∙ ap length holds.seen.is in
    let few = closes.closed.kept.journal.few in record {
      closed = subst (λ (r : RunSetting). IsClosed (record { setting = r.setting; limit = r.limit; seats = r.seats; journal = journal }) journal plan totals score) is closes.closed;
      whole = omega (arith, seen, long, few, ap (λ (r : RunSetting). r.limit) is);
    }
