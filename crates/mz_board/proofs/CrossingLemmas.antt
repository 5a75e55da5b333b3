-- A chair and a note may go to another thread, and a board may be shared among threads, where its value may go to another one.
use denote.RattleType.{RattleType}
use denote.Struct.Struct.{Struct}
use denote.Struct.Owning.{shape}
use denote.Param.Send.{IsSend, IsSync, sendable, part_keyless}
use Rattle.atomic_table.specs.declared.shared.TableRule as rule
use Rattle.atomic_table.specs.contracts.shared.Seat as Seat
use Rattle.atomic_table.specs.contracts.shared.Shared as Shared
use Rattle.atomic_table.proofs.Sent.{seat_keyless, owns_keyless, shares_keyless}
use Rattle.atomic_table.specs.contracts.send_lease.SendLease as Lease
use Rattle.atomic_table.proofs.Rights.{right_send}
use Rattle.std.proofs.Crossing.{crosses, frees}
use Rattle.std.specs.contracts.alloc.Global as Heap
use Rattle.std.specs.contracts.impls.GlobalAllocator.TheImpl.{ghosts}
use Rattle.mz_board.specs.declared.story.Story.{Ghosts}
use Rattle.mz_board.specs.contracts.chair.Chair as Chair
use Rattle.mz_board.specs.contracts.note.Note as Note
use Rattle.mz_board.specs.contracts.board.Board as Board

seat_send : (S V : RattleType) → IsSend S → IsSend (Seat.the_row S V)
seat_send S V s = record {
  owned = λ d vs. (
    (λ vss. (tt, ((λ uss. (tt, tt)), tt))),
    seat_keyless S s V.coded.code d.table_id d.id d.me,
  );
  leaving = λ k f vs. tt;
}

shared_send : (S V K P : RattleType) (g : rule.Ghosts P.Denot S.Denot V.Denot K.Denot) → IsSend S
    → IsSend (Shared.the_row S V K P g)
shared_send S V K P g s = record {
  owned = λ d vs. (
    (λ vss. (tt, (tt, (tt, ((λ uss. (tt, tt)), tt))))),
    owns_keyless S s V.coded.code d.table_id (g.holds d.key) d.words d.slots,
  );
  leaving = λ k f vs. tt;
}

shared_sync : (S V K P : RattleType) (g : rule.Ghosts P.Denot S.Denot V.Denot K.Denot) → IsSend S
    → IsSync (Shared.the_row S V K P g)
shared_sync S V K P g s = let fields : IsSync (Struct (shape (Shared.the_type S V K P g))) = search sendable depth 20
    in
    record {
      shared = λ d b o ν. (
        fields.shared (d.words, (d.slots, (tt, tt))) b o ν,
        shares_keyless S s V.coded.code d.table_id (g.holds d.key) d.words d.slots ν,
      );
    }

pub chair_send : (T E S : RattleType) (g : Ghosts T.Denot E.Denot S.Denot) → IsSend T → IsSend (Chair.the_row T E S g)
chair_send T E S g s = search (sendable, crosses, seat_send) depth 20

pub note_send : (T E S : RattleType) (g : Ghosts T.Denot E.Denot S.Denot) → IsSend T → IsSend (Note.the_row T E S g)
note_send T E S g s = search (sendable, crosses, seat_send) depth 20

lease_send : (T : RattleType) → IsSend (Lease.the_row T Heap.the_row ghosts)
lease_send T = right_send T Heap.the_row ghosts (record { frees = frees.frees })

lease_sync : (T : RattleType) → IsSync (Lease.the_row T Heap.the_row ghosts)
lease_sync T = record {
  shared = λ d b o ν q. part_keyless (Lease.the_row T Heap.the_row ghosts) (lease_send T) q d b
      o;
}

pub board_sync : (T E S : RattleType) (g : Ghosts T.Denot E.Denot S.Denot) → IsSend T → IsSync (Board.the_row T E S g)
board_sync T E S g s = search (sendable, crosses, shared_sync, lease_sync) depth 30

pub board_send : (T E S : RattleType) (g : Ghosts T.Denot E.Denot S.Denot) → IsSend T → IsSend (Board.the_row T E S g)
board_send T E S g s = search (sendable, crosses, shared_send, lease_send) depth 30

pub ruleset boards_cross = (chair_send, note_send, board_sync, board_send)
