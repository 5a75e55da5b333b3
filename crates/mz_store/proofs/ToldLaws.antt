-- Journals as the board knows them: each entry with its writes.
use Rattle.std.proofs.Common.{◌≡◌, suc, List, [], ◌∷◌, ◌++◌, length, refl, sym, ap, ◌∙◌, append_assoc, append-nil}
use Rattle.std.proofs.lemmas.List.{length-map, map-append}
use Rattle.mz_history.specs.declared.entry.Entry.{Entry}
use Rattle.mz_history.specs.Replay.{Setting}
use Rattle.mz_store.specs.declared.told.Told.{Told}
use Rattle.mz_store.specs.Told.{told, told_after, told_all, untold}

length-after : (s : Setting) (before journal : List Entry) → length (told_after s before journal) ≡ length journal
length-after s before [] = refl
length-after s before (e ∷ es) = ap suc (length-after s (before ++ e ∷ []) es)

pub length-told : (s : Setting) (journal : List Entry) → length (told_all s journal) ≡ length journal
length-told s journal = length-after s [] journal

untold-after : (s : Setting) (before journal : List Entry) → untold (told_after s before journal) ≡ journal
untold-after s before [] = refl
untold-after s before (e ∷ es) = ap (λ (xs : List Entry). e ∷ xs) (untold-after s (before ++ e ∷ []) es)

pub untold-told : (s : Setting) (journal : List Entry) → untold (told_all s journal) ≡ journal
untold-told s journal = untold-after s [] journal

pub length-untold : (ts : List Told) → length (untold ts) ≡ length ts
length-untold ts = length-map ts (λ (t : Told). t.entry)

pub untold-append : (ts us : List Told) → untold (ts ++ us) ≡ untold ts ++ untold us
untold-append ts us = map-append (λ (t : Told). t.entry) ts us

push-after : (s : Setting) (before journal : List Entry) (entry : Entry)
    → told_after s before (journal ++ entry ∷ []) ≡ told_after s before journal ++ told s (before ++ journal) entry ∷ []
push-after s before [] entry = ap (λ (es : List Entry). told s es entry ∷ []) (sym (append-nil before))
push-after s before (e ∷ es) entry =
    ap (λ (ts : List Told). told s before e ∷ ts)
    (push-after s (before ++ e ∷ []) es entry
    ∙ ap (λ (xs : List Entry). told_after s (before ++ e ∷ []) es ++ told s xs entry ∷ []) (append_assoc before (e ∷ []) es))

-- one entry more
pub told-push : (s : Setting) (journal : List Entry) (entry : Entry) → told_all s (journal ++ entry ∷ []) ≡ told_all s journal ++ told s journal entry ∷ []
told-push s journal entry = push-after s [] journal entry

-- what stands at a place of a journal
pub record IsSplit (s : Setting) (before journal : List Entry) (ts : List Told) (t : Told) (us : List Told) : Type 0 where
  pub journal_is : journal ≡ untold ts ++ t.entry ∷ untold us
  pub told_is : t ≡ told s (before ++ untold ts) t.entry

split-after : (s : Setting) (before journal : List Entry) (ts : List Told) (t : Told) (us : List Told) → told_after s before journal ≡ ts ++ t ∷ us → IsSplit s before journal ts t us
split-after s before [] [] t us e = absurd (cc)
split-after s before [] (x ∷ xs) t us e = absurd (cc)
split-after s before (e ∷ es) [] t us same =
    let head : told s before e ≡ t = cc in
    let tail : told_after s (before ++ e ∷ []) es ≡ us = cc in
    let own : e ≡ t.entry = ap (λ (x : Told). x.entry) head in record {
      journal_is = ap (λ (x : Entry). x ∷ es) own ∙ ap (λ (xs : List Entry). t.entry ∷ xs) (sym (untold-after s (before ++ e ∷ []) es) ∙ ap untold tail);
      told_is = sym head ∙ ap (λ (x : Entry). told s before x) own ∙ ap (λ (xs : List Entry). told s xs t.entry) (sym (append-nil before));
    }
split-after s before (e ∷ es) (x ∷ xs) t us same =
    let head : told s before e ≡ x = cc in
    let tail : told_after s (before ++ e ∷ []) es ≡ xs ++ t ∷ us = cc in
    let own : e ≡ x.entry = ap (λ (y : Told). y.entry) head in
    let more = split-after s (before ++ e ∷ []) es xs t us tail in record {
      journal_is = ap (λ (y : Entry). y ∷ es) own ∙ ap (λ (ys : List Entry). x.entry ∷ ys) more.journal_is;
      told_is = more.told_is ∙ ap (λ (ys : List Entry). told s ys t.entry)
          (append_assoc before (e ∷ []) (untold xs) ∙ ap (λ (y : Entry). before ++ y ∷ untold xs) own);
    }

pub told-split : (s : Setting) (journal : List Entry) (ts : List Told) (t : Told) (us : List Told) → told_all s journal ≡ ts ++ t ∷ us → IsSplit s [] journal ts t us
told-split s journal ts t us same = split-after s [] journal ts t us same
