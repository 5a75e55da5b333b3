-- Passes that meet.
use Rattle.std.proofs.Common.{◌≡◌, ℕ, ◌≤◌, List, [], ◌∷◌, ◌++◌, length, length-append, max, Option, None, refl, sym, ap, ◌∙◌, subst, arith, append-nil}
use Rattle.std.proofs.lemmas.Option.{none-some}
use Rattle.mz_board.specs.Chair.{ChairState, counted, joined, Learns, note_of_chair, NoteState}
use Rattle.mz_board.specs.Seen.{Begins, GrewByOthers, longer}
use Rattle.mz_board.proofs.SeenLemmas.{begins_longer, longer_left, longer_most, longer_right}
use Rattle.mz_delta.specs.declared.reading.Reading.{Reading}
use Rattle.mz_store.specs.declared.told.Told.{Told}
use Rattle.mz_store.specs.Leaves.{Meets}
use Rattle.mz_store.specs.Pass.{IsPass, pass_of, PassState, Room}
use Rattle.mz_store.specs.RunSetting.{RunSetting}
use Rattle.mz_store.specs.Told.{seat_of, untold}
use Rattle.mz_store.proofs.OwnLaws.{grew-own, grew-turns, untold-begins, untold-grew}
use Rattle.mz_store.proofs.ToldLaws.{length-untold}

-- ---- lists

nil-of : {X : Type 0} (xs : List X) → length xs ≡ 0 → xs ≡ []
nil-of [] none = refl
nil-of (x ∷ xs) none = absurd (omega arith)

begins-same : {X : Type 0} (xs ys : List X) → Begins xs ys → length ys ≤ length xs → xs ≡ ys
begins-same xs ys begins short =
    let rest : begins.rest ≡ [] = nil-of begins.rest (omega (arith, ap length begins.is, length-append xs begins.rest)) in
    sym (append-nil xs) ∙ ap (λ r. xs ++ r) (sym rest) ∙ begins.is

-- ---- one of the two

-- a chair that has seen what another has
abbrev met : ChairState Told RunSetting → ChairState Told RunSetting → ChairState Told RunSetting
met one other = counted (joined one (note_of_chair other))

pub record HasMet (one other split after last : ChairState Told RunSetting) (note : NoteState Told RunSetting) : Type 0 where
  pub split_is : split ≡ one
  pub note_is : note ≡ note_of_chair other
  pub joins : after ≡ joined split note
  pub learns : Learns seat_of after after.seen
  pub counts : last ≡ counted after

-- what was learned of the longer list
record Learned (one other last : ChairState Told RunSetting) : Type 0 where
  now : last ≡ met one other
  own : GrewByOthers seat_of one.number one.own (longer one.seen other.seen)
  first : Begins one.seen (longer one.seen other.seen)
  second : Begins other.seen (longer one.seen other.seen)

learned : (one other split after last : ChairState Told RunSetting) (note : NoteState Told RunSetting) → HasMet one other split after last note → Learned one other last
learned one other split after last note h =
    let joins : after ≡ joined one (note_of_chair other) = h.joins ∙ ap (λ (c : ChairState Told RunSetting). joined c note) h.split_is ∙ ap (joined one) h.note_is in
    let learns : Learns seat_of (joined one (note_of_chair other)) (longer one.seen other.seen) = subst (λ (c : ChairState Told RunSetting). Learns seat_of c c.seen) joins h.learns in record {
      now = h.counts ∙ ap (λ (c : ChairState Told RunSetting). counted c) joins;
      own = learns.own;
      first = learns.told 1 [] (omega arith);
      second = learns.told 0 [] (omega arith);
    }

met-pass : (one other last : ChairState Told RunSetting) (seat number reached most : ℕ) (reading : Option Reading) (room : Room) → Learned one other last → IsPass one seat number reached reading room → length other.seen ≤ other.post.reached
    → most ≡ max one.post.reached other.post.reached → IsPass last seat number most None room
met-pass one other last seat number reached most reading room l pass few most_is =
    subst (λ (c : ChairState Told RunSetting). IsPass c seat number most None room) (sym l.now) (record {
      idle = pass.idle;
      own = refl;
      told = refl;
      seat_is = pass.seat_is;
      within = pass.within;
      number_is = pass.number_is ∙ sym (grew-turns one.number (untold one.seen) (untold (longer one.seen other.seen))
          (untold-grew one.number one.seen (longer one.seen other.seen) (subst (λ (ts : List Told). GrewByOthers seat_of one.number ts (longer one.seen other.seen)) pass.own l.own)));
      reached_is = most_is;
      least = longer_most one.seen other.seen (max one.post.reached other.post.reached) (omega (arith, pass.least)) (omega (arith, few));
      read = λ (other : Reading) (run : RunSetting) it known. absurd (none-some other it);
      room_is = pass.room_is;
      unused = pass.unused;
    })

-- ---- both

pub record Both (one other : ChairState Told RunSetting) (seat seat' number number' reached reached' most : ℕ) (reading reading' : Option Reading) (room room' : Room) : Type 0 where
  pub first : IsPass one seat number reached reading room
  pub second : IsPass other seat' number' reached' reading' room'
  pub most_is : most ≡ max reached reached'

module _ (one other : ChairState Told RunSetting) (seat seat' number number' reached reached' most : ℕ) (reading reading' : Option Reading) (room room' : Room) (both : Both one other seat seat' number number' reached reached' most reading reading' room room')
    (split after last split' after' last' : ChairState Told RunSetting) (note note' : NoteState Told RunSetting) (h : HasMet one other split after last note) (h' : HasMet other one split' after' last' note') where
  greatest : most ≡ max one.post.reached other.post.reached
  greatest = both.most_is ∙ ap (λ n. max n reached') both.first.reached_is ∙ ap (λ n. max one.post.reached n) both.second.reached_is

  greatest' : most ≡ max other.post.reached one.post.reached
  greatest' = omega (arith, greatest)

  pub first-pass : IsPass last seat number most None room
  first-pass = met-pass one other last seat number reached most reading room (learned one other split after last note h) both.first both.second.least greatest

  pub second-pass : IsPass last' seat' number' most None room'
  second-pass = met-pass other one last' seat' number' reached' most reading' room' (learned other one split' after' last' note' h') both.second both.first.least greatest'

  abbrev list : List Told
  list = longer one.seen other.seen

  -- both have seen one list
  same-list : longer other.seen one.seen ≡ list
  same-list =
      let l = learned one other split after last note h in
      begins-same (longer other.seen one.seen) list (begins_longer other.seen one.seen list l.second l.first)
      (longer_most one.seen other.seen (length (longer other.seen one.seen)) (longer_right other.seen one.seen) (longer_left other.seen one.seen))

  pub both-meet : (a b : PassState) → pass_of one number reached reading ≡ a → pass_of other number' reached' reading' ≡ b → Meets a b (pass_of last number most None) (pass_of last' number' most None)
  both-meet a b a_is b_is =
      let l = learned one other split after last note h in let l' = learned other one split' after' last' note' h' in
      let longest : length list ≡ max (length one.seen) (length other.seen) =
      omega (arith, longer_left one.seen other.seen, longer_right one.seen other.seen, longer_most one.seen other.seen (max (length one.seen) (length other.seen)) (omega arith) (omega arith)) in
      let own : GrewByOthers seat_of one.number one.seen list = subst (λ (ts : List Told). GrewByOthers seat_of one.number ts list) both.first.own l.own in
      let own' : GrewByOthers seat_of other.number other.seen list = subst (λ (ts : List Told). GrewByOthers seat_of other.number other.seen ts) same-list (subst (λ (ts : List Told). GrewByOthers seat_of other.number ts (longer other.seen one.seen)) both.second.own l'.own) in
      subst (λ (p : PassState). Meets p b (pass_of last number most None) (pass_of last' number' most None)) a_is
      (subst (λ (p : PassState). Meets (pass_of one number reached reading) p (pass_of last number most None) (pass_of last' number' most None)) b_is (record {
        seen = untold list;
        first = untold-begins one.seen list l.first;
        second = untold-begins other.seen list l.second;
        longer = length-untold list ∙ longest ∙ ap (λ n. max n (length other.seen)) (sym (length-untold one.seen)) ∙ ap (λ n. max (length (untold one.seen)) n) (sym (length-untold other.seen));
        first_own = grew-own one.number (untold one.seen) (untold list) (untold-grew one.number one.seen list own);
        second_own = grew-own other.number (untold other.seen) (untold list) (untold-grew other.number other.seen list own');
        first_now = ap (λ (c : ChairState Told RunSetting). pass_of c number most None) l.now ∙ ap (λ n. record (pass_of one number reached reading) { seen = untold list; reached = n; reading = None }) both.most_is;
        second_now = ap (λ (c : ChairState Told RunSetting). pass_of c number' most None) l'.now
            ∙ ap (λ (ts : List Told). record (pass_of other number' reached' reading') { seen = untold ts; reached = most; reading = None }) same-list
            ∙ ap (λ n. record (pass_of other number' reached' reading') { seen = untold list; reached = n; reading = None }) both.most_is;
      }))
