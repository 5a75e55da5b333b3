-- Laws of what watchers are told.
use Rattle.std.proofs.Common.{◌≡◌, ℕ, ◌+◌, ◌-◌, ◌<◌, ◌≤◌, List, [], ◌∷◌, ◌++◌, length, map, get_or, set, take, drop, refl, ap, sym, ◌∙◌, arith}
use Rattle.std.proofs.lemmas.List.{drop_more, drop-set-lt, length-drop, map-append, take_all, take_more, take_more_set}
use Rattle.mz_history.specs.declared.entry.Entry.{Entry}
use Rattle.mz_watch.specs.Watcher.{WatcherState, after_entry, after_entries}

-- one entry more was told
pub told_more : (run at : ℕ) (end now next : WatcherState) (journal : List Entry) (entry : Entry)
    → at < length journal → end ≡ after_entries run at (drop at journal) now
    → next ≡ after_entry run at (get_or journal at entry) now
    → end ≡ after_entries run (at + 1) (drop (at + 1) journal) next
told_more run at end now next journal entry h so_far told =
    so_far
    ∙ ap (λ entries. after_entries run at entries now) (drop_more journal at entry h)
    ∙ ap (after_entries run (at + 1) (drop (at + 1) journal)) (sym told)

-- items that are changed one after another, seen through a function: the first few as they are to be, the others as
-- they were
pub record Changed {X Y : Type 0} (f g : X → Y) (count : ℕ) (old now : List X) : Type 0 where
  pub first : map f (take count now) ≡ map g (take count old)
  pub others : drop count now ≡ drop count old

pub none_changed : {X Y : Type 0} (f g : X → Y) (items : List X) → Changed f g 0 items items
none_changed f g items = record { first = refl; others = refl }

pub one_changed : {X Y : Type 0} (f g : X → Y) (count : ℕ) (old now : List X) (before item : X)
    → Changed f g count old now → count < length now → f item ≡ g (get_or now count before) → Changed f g (count + 1) old (set now count item)
one_changed {X} {Y} f g count old now before item so_far h is =
    let left : length now - count ≡ length old - count = sym (length-drop count now) ∙ ap length so_far.others ∙ length-drop count old in
    let inside : count < length old = omega arith in
    let split : get_or now count before ∷ drop (count + 1) now ≡ get_or old count before ∷ drop (count + 1) old =
    sym (drop_more now count before h) ∙ so_far.others ∙ drop_more old count before inside in
    let same : get_or now count before ≡ get_or old count before = ap (λ (xs : List X). get_or xs 0 before) split in
    record {
      first =
          ap (map f) (take_more_set now count item h)
          ∙ map-append f (take count now) (item ∷ [])
          ∙ ap (λ ys. ys ++ f item ∷ []) so_far.first
          ∙ ap (λ y. map g (take count old) ++ y ∷ []) (is ∙ ap g same)
          ∙ sym (map-append g (take count old) (get_or old count before ∷ []))
          ∙ ap (map g) (sym (take_more old count before inside));
      others =
          drop-set-lt (count + 1) now count item (omega arith)
          ∙ ap (drop 1) split;
    }

pub all_changed : {X Y : Type 0} (f g : X → Y) (count : ℕ) (old now : List X) → Changed f g count old now → length now ≤ count → map f now ≡ map g old
all_changed f g count old now so_far whole =
    let left : length now - count ≡ length old - count = sym (length-drop count now) ∙ ap length so_far.others ∙ length-drop count old in
    ap (map f) (sym (take_all count now whole)) ∙ so_far.first ∙ ap (map g) (take_all count old (omega arith))
