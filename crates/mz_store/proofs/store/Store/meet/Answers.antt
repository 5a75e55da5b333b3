use Rattle.mz_store.proofs.MeetLaws.{both-meet, first-pass, second-pass}
use Rattle.mz_store.proofs.store.Store.meet.Goals as goal

pub invariant_of-other : goal.invariant_of-other
invariant_of-other c = second-pass c.pass.inside.chair c.other.inside.chair c.pass.inside.seat c.other.inside.seat c.pass.inside.number c.other.inside.number c.pass.inside.reached c.other.inside.reached c.greater-reached.result _ _ _ _
    (record { first = c.pass.invariant; second = c.other.invariant; most_is = c.greater-reached.ensures })
    c.split-note.new.chair c.join.new.chair c.count.new.chair c.split-other_note.new.chair c.join-2.new.chair c.count-2.new.chair c.split-other_note.result c.split-note.result
    (record { split_is = c.split-note.ensures.chair; note_is = c.split-other_note.ensures.note; joins = c.join.ensures; learns = c.count.ensures.learns; counts = c.count.ensures.now })
    (record { split_is = c.split-other_note.ensures.chair; note_is = c.split-note.ensures.note; joins = c.join-2.ensures; learns = c.count-2.ensures.learns; counts = c.count-2.ensures.now })

pub invariant_of-pass : goal.invariant_of-pass
invariant_of-pass c = first-pass c.pass.inside.chair c.other.inside.chair c.pass.inside.seat c.other.inside.seat c.pass.inside.number c.other.inside.number c.pass.inside.reached c.other.inside.reached c.greater-reached.result _ _ _ _
    (record { first = c.pass.invariant; second = c.other.invariant; most_is = c.greater-reached.ensures })
    c.split-note.new.chair c.join.new.chair c.count.new.chair c.split-other_note.new.chair c.join-2.new.chair c.count-2.new.chair c.split-other_note.result c.split-note.result
    (record { split_is = c.split-note.ensures.chair; note_is = c.split-other_note.ensures.note; joins = c.join.ensures; learns = c.count.ensures.learns; counts = c.count.ensures.now })
    (record { split_is = c.split-other_note.ensures.chair; note_is = c.split-note.ensures.note; joins = c.join-2.ensures; learns = c.count-2.ensures.learns; counts = c.count-2.ensures.now })

pub returns : goal.returns
returns c = both-meet c.pass.inside.chair c.other.inside.chair c.pass.inside.seat c.other.inside.seat c.pass.inside.number c.other.inside.number c.pass.inside.reached c.other.inside.reached c.greater-reached.result _ _ _ _
    (record { first = c.pass.invariant; second = c.other.invariant; most_is = c.greater-reached.ensures })
    c.split-note.new.chair c.join.new.chair c.count.new.chair c.split-other_note.new.chair c.join-2.new.chair c.count-2.new.chair c.split-other_note.result c.split-note.result
    (record { split_is = c.split-note.ensures.chair; note_is = c.split-other_note.ensures.note; joins = c.join.ensures; learns = c.count.ensures.learns; counts = c.count.ensures.now })
    (record { split_is = c.split-other_note.ensures.chair; note_is = c.split-note.ensures.note; joins = c.join-2.ensures; learns = c.count-2.ensures.learns; counts = c.count-2.ensures.now })
    c.args.pass.now c.args.other c.pass.view_is c.other.view_is
