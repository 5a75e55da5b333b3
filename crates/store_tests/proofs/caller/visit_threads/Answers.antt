use denote.Param.Send.{sendable}
use Rattle.mz_store.proofs.CrossingLaws.{pass_send, store_sync}
use Rattle.store_tests.proofs.caller.visit_threads.Goals as goal

pub map_vec-requires-send-J : goal.map_vec-requires-send-J
map_vec-requires-send-J g c κs within = search (sendable, pass_send) depth 10

pub map_vec-requires-send-X : goal.map_vec-requires-send-X
map_vec-requires-send-X g c κs within = search (sendable, pass_send) depth 10

pub map_vec-requires-sync-F : goal.map_vec-requires-sync-F
map_vec-requires-sync-F g c κs within = search (sendable, store_sync) depth 20
