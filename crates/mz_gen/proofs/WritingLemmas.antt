-- Laws of writes one after another.
use Rattle.std.proofs.Common.{◌≡◌, ℕ, ◌+◌, ◌<◌, ◌≤◌, List, [], ◌∷◌, ◌++◌, length, map, get_or, take, drop, ap, sym, ◌∙◌, subst}
use Rattle.std.proofs.lemmas.List.{drop_more, map-append, take-append-drop, take_all, take_more}
use Rattle.mz_shelf.specs.State.{State}
use Rattle.mz_shelf.specs.Act.{Act}
use Rattle.mz_shelf.specs.Chain.{DidAll}
use Rattle.mz_shelf.specs.Performed.{Stopped}
use Rattle.mz_shelf.specs.declared.stop.Stop.{Stop}
use Rattle.mz_shelf.proofs.ChainLemmas.{DidAll-append}
use Rattle.mz_shelf.proofs.PerformedLemmas.{stopped_first, stopped_later}

-- one more is written
pub written_more : {X : Type 0} (act : X → Act) (files : List X) (n : ℕ) (file : X) (old between new : State)
    → n < length files → DidAll (map act (take n files)) old between → DidAll (act (get_or files n file) ∷ []) between new
    → DidAll (map act (take (n + 1) files)) old new
written_more act files n file old between new h so_far one =
    subst (λ (acts : List Act). DidAll acts old new)
    (sym (ap (map act) (take_more files n file h) ∙ map-append act (take n files) (get_or files n file ∷ [])))
    (DidAll-append so_far one)

-- one isn't
pub writing_stops : {X : Type 0} (act : X → Act) (files : List X) (n : ℕ) (file : X) (old between new : State) (stop : Stop)
    → n < length files → DidAll (map act (take n files)) old between → Stopped (act (get_or files n file) ∷ []) between new stop
    → Stopped (map act files) old new stop
writing_stops act files n file old between new stop h so_far one =
    let split : map act files ≡ map act (take n files) ++ act (get_or files n file) ∷ map act (drop (n + 1) files) =
    ap (map act) (sym (take-append-drop n files))
    ∙ map-append act (take n files) (drop n files)
    ∙ ap (λ rest. map act (take n files) ++ map act rest) (drop_more files n file h) in
    subst (λ (acts : List Act). Stopped acts old new stop) (sym split)
    (stopped_later (map act (take n files)) (act (get_or files n file) ∷ map act (drop (n + 1) files)) old between new stop so_far
    (stopped_first (act (get_or files n file) ∷ []) (map act (drop (n + 1) files)) between new stop one))

-- all are written
pub written_all : {X : Type 0} (act : X → Act) (files : List X) (n : ℕ) (old new : State)
    → length files ≤ n → DidAll (map act (take n files)) old new → DidAll (map act files) old new
written_all act files n old new whole so_far = subst (λ rest. DidAll (map act rest) old new) (take_all n files whole) so_far
