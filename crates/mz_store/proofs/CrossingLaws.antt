-- A pass may go to another thread, and a store may be shared among threads.
use mathlib.Core.List.{[], ◌∷◌}
use mir.Syntax.{w32, w64}
use denote.Plain.{UInt}
use denote.RattleType.{RattleType}
use denote.Param.Send.{IsSend, IsSync, sendable, view_send, view_sync}
use denote.Param.SendFields.{declared_sync}
use denote.Ref.{NamedLft}
use denote.Struct.Tuple.{Tuple}
use Rattle.mz_num.specs.contracts.sequence.Items as Items
use Rattle.mz_model.specs.contracts.groups.Groups as Groups
use Rattle.mz_model.specs.contracts.neighbour.Neighbour as Neighbour
use Rattle.mz_model.specs.contracts.parts.Parts as Parts
use Rattle.mz_model.specs.contracts.parts.Target as Target
use Rattle.mz_model.specs.contracts.problem.Problem as Problem
use Rattle.mz_model.specs.contracts.problem.Problem.TheInside as ProblemInside
use Rattle.mz_model.specs.contracts.touch.Touch as Touch
use Rattle.std.proofs.Crossing.{crosses}
use Rattle.mz_history.specs.contracts.entry.Entry as Entry
use Rattle.mz_state.specs.contracts.kept.Kept as Kept
use Rattle.mz_state.specs.contracts.kept.Kept.TheInside as KeptInside
use Rattle.mz_board.proofs.CrossingLemmas.{boards_cross}
use Rattle.mz_store.specs.contracts.held.Held as Held
use Rattle.mz_history.specs.contracts.rules.Rules as Rules
use Rattle.mz_store.specs.contracts.pass.Pass as Pass
use Rattle.mz_store.specs.contracts.store.Store as Store
use Rattle.mz_store.specs.contracts.store.Store.TheInside as StoreInside

-- ---- the state goes with the turn

entry_send : IsSend Entry.the_row
entry_send = search (sendable, crosses) depth 20

kept_inside : IsSend KeptInside.the_row
kept_inside = search (sendable, crosses, entry_send) depth 20

kept_send : IsSend Kept.the_row
kept_send = view_send _ _ _ _ _ kept_inside

held_send : IsSend Held.the_row
held_send = search (sendable, crosses, kept_send) depth 20

pub pass_send : IsSend Pass.the_row
pass_send = search (sendable, crosses, boards_cross, held_send) depth 30

-- ---- the problem is shared

pair_sync : IsSync (Tuple (UInt w32 ∷ UInt w64 ∷ []))
pair_sync = search sendable depth 20

triple_sync : IsSync (Tuple (UInt w32 ∷ UInt w32 ∷ UInt w64 ∷ []))
triple_sync = search sendable depth 20

items_sync : (T : RattleType) → IsSync T → IsSync (Items.the_row T)
items_sync T s = search (sendable, crosses) depth 20

groups_sync : (T : RattleType) → IsSync T → IsSync (Groups.the_row T)
groups_sync T s = search (sendable, crosses) depth 20

neighbour_sync : IsSync Neighbour.the_row
neighbour_sync = search sendable depth 20

touch_sync : IsSync Touch.the_row
touch_sync = search sendable depth 20

target_sync : IsSync Target.the_row
target_sync = search sendable depth 20

ruleset in_parts = (sendable, items_sync, target_sync, triple_sync)

parts_sync : IsSync Parts.the_row
parts_sync = declared_sync Parts.the_type
    (search in_parts depth 20, (search in_parts depth 20, (search in_parts depth 20, (search in_parts depth 20, (search in_parts depth 20, (search in_parts depth 20, (search in_parts depth 20, (search in_parts depth 20, (search in_parts depth 20, (search in_parts depth 20, (search in_parts depth 20, (search in_parts depth 20, (search in_parts depth 20, tt)))))))))))))

ruleset in_problem = (sendable, crosses, groups_sync, neighbour_sync, pair_sync, parts_sync, touch_sync)

problem_inside : IsSync ProblemInside.the_row
problem_inside = declared_sync ProblemInside.the_type
    (search in_problem depth 20, (search in_problem depth 20, (search in_problem depth 20, (search in_problem depth 20, (search in_problem depth 20, (search in_problem depth 20, (search in_problem depth 20, (search in_problem depth 20, (search in_problem depth 20, tt)))))))))

problem_sync : IsSync Problem.the_row
problem_sync = view_sync _ _ _ _ _ problem_inside

rules_sync : IsSync Rules.the_row
rules_sync = search (sendable, crosses) depth 20

store_inside : (l : NamedLft) → IsSync (StoreInside.the_row l)
store_inside l = search (sendable, crosses, boards_cross, held_send, problem_sync, rules_sync) depth 30

pub store_sync : (l : NamedLft) → IsSync (Store.the_row l)
store_sync l = view_sync _ _ _ _ _ (store_inside l)

pub ruleset stores_cross = (pass_send, store_sync)
