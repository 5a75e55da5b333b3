-- A worker may go to another thread.
use denote.Param.Send.{IsSend, sendable}
use denote.Param.SendFields.{declared_send}
use Rattle.std.proofs.Crossing.{crosses}
use Rattle.crossbeam_utils.specs.contracts.cache_padded.CachePadded as CachePadded
use Rattle.mz_delta.specs.contracts.judged.Judged as Judged
use Rattle.mz_delta.specs.contracts.reading.Reading as Reading
use Rattle.mz_draw.specs.contracts.drawer.Drawer as Drawer
use Rattle.mz_store.proofs.CrossingLaws.{pass_send}
use Rattle.mz_crew.specs.contracts.worker.Worker as Worker

drawer_send : IsSend Drawer.the_row
drawer_send = search (sendable, crosses) depth 20

reading_send : IsSend Reading.the_row
reading_send = search (sendable, crosses) depth 20

judged_send : IsSend Judged.the_row
judged_send = search (sendable, crosses) depth 20

pub worker_send : IsSend Worker.the_row
worker_send = declared_send Worker.the_type (pass_send, (drawer_send, (reading_send, (judged_send, tt))))

pub padded_send : IsSend (CachePadded.the_row Worker.the_row)
padded_send = search (sendable, crosses, worker_send) depth 20
