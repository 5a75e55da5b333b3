use Rattle.std.proofs.Common.{◌≡◌, ◌<◌, ◌∷◌, [], length, get_or, length-append, sym, ◌∙◌, ap, rules, tests}
use Rattle.std.specs.List.{slice_split}
use Rattle.std.proofs.lemmas.Iterator.Splits.{YieldsList-from_slice_split}
use Rattle.std.proofs.lemmas.Iterator.Consumers.{YieldsList-at, YieldsList-turn, YieldsList-end}
use Rattle.mz_params.specs.Lines.{is_line_feed, without_mark, line_fault, first_fault}
use Rattle.mz_params.proofs.FileLemmas.{read_to_skip, read_to_take, read_to_fault, read_to_end-entries, read_to_end-faults, IsFirstFault-from, lines_of-split}
use Rattle.mz_params.proofs.file.read_lines.Goals as goal

pub returns-in-Some-fault_of-clause-fault : goal.returns-in-Some-fault_of-clause-fault
returns-in-Some-fault_of-clause-fault c =
    let turn : (length c.loop-text.yielded < length (slice_split is_line_feed (without_mark c.args.bytes.now))) × (c.in-Some.text.now ≡ get_or (slice_split is_line_feed (without_mark c.args.bytes.now)) (length c.loop-text.yielded) c.in-Some.text.now) = YieldsList-turn
    (YieldsList-at c.into_iter-text-iterator.ensures.into_iter_gives (YieldsList-from_slice_split _ is_line_feed (without_mark c.args.bytes.now) (c.split-text-items.ensures.rest ∙ c.without_byte_order_mark.ensures) c.split-text-items.ensures.done c.split-text-items.ensures.closure (λ x b q k. search (rules, tests))))
    c.loop-text.yielded c.loop-text.text-iterator c.loop-text.yielded_by c.next.result c.next.new.self c.in-Some.text c.in-Some.is c.next.ensures.steps in
    IsFirstFault-from _ _ (ap (first_fault []) (lines_of-split c.args.bytes.now) ∙
    read_to_fault (slice_split is_line_feed (without_mark c.args.bytes.now)) c.loop-text.lines.items (length c.loop-text.yielded) c.in-Some.text.now c.in-Some-read_line.line c.in-Some-fault_of.fault turn.0 turn.1 (sym c.in-Some-read_line.ensures) (ap (λ es. line_fault es c.in-Some-read_line.line) (sym c.deref.ensures.value) ∙ sym c.in-Some-fault_of.ensures) c.loop-text.invariant)

pub loop-text-preserved-in-Continue-1 : goal.loop-text-preserved-in-Continue-1
loop-text-preserved-in-Continue-1 c =
    let turn : (length c.loop-text.yielded < length (slice_split is_line_feed (without_mark c.args.bytes.now))) × (c.in-Some.text.now ≡ get_or (slice_split is_line_feed (without_mark c.args.bytes.now)) (length c.loop-text.yielded) c.in-Some.text.now) = YieldsList-turn
    (YieldsList-at c.into_iter-text-iterator.ensures.into_iter_gives (YieldsList-from_slice_split _ is_line_feed (without_mark c.args.bytes.now) (c.split-text-items.ensures.rest ∙ c.without_byte_order_mark.ensures) c.split-text-items.ensures.done c.split-text-items.ensures.closure (λ x b q k. search (rules, tests))))
    c.loop-text.yielded c.loop-text.text-iterator c.loop-text.yielded_by c.next.result c.next.new.self c.in-Some.text c.in-Some.is c.next.ensures.steps in
    read_to_take (slice_split is_line_feed (without_mark c.args.bytes.now)) c.loop-text.lines.items _ (length c.loop-text.yielded) _ c.in-Some.text.now c.in-Some-read_line.line (length-append c.loop-text.yielded (c.in-Some.text ∷ [])) turn.0 turn.1 (sym c.in-Some-read_line.ensures) (cc (ap (λ es. line_fault es c.in-Some-read_line.line) c.deref.ensures.value)) c.in_ok-push.ensures.items c.loop-text.invariant

pub loop-text-preserved : goal.loop-text-preserved
loop-text-preserved c =
    let turn : (length c.loop-text.yielded < length (slice_split is_line_feed (without_mark c.args.bytes.now))) × (c.in-Some.text.now ≡ get_or (slice_split is_line_feed (without_mark c.args.bytes.now)) (length c.loop-text.yielded) c.in-Some.text.now) = YieldsList-turn
    (YieldsList-at c.into_iter-text-iterator.ensures.into_iter_gives (YieldsList-from_slice_split _ is_line_feed (without_mark c.args.bytes.now) (c.split-text-items.ensures.rest ∙ c.without_byte_order_mark.ensures) c.split-text-items.ensures.done c.split-text-items.ensures.closure (λ x b q k. search (rules, tests))))
    c.loop-text.yielded c.loop-text.text-iterator c.loop-text.yielded_by c.next.result c.next.new.self c.in-Some.text c.in-Some.is c.next.ensures.steps in
    read_to_skip (slice_split is_line_feed (without_mark c.args.bytes.now)) c.loop-text.lines.items (length c.loop-text.yielded) _ c.in-Some.text.now (length-append c.loop-text.yielded (c.in-Some.text ∷ [])) turn.0 turn.1 (cc) c.loop-text.invariant

pub returns-clause-lines : goal.returns-clause-lines
returns-clause-lines c =
    let end : length c.loop-text.yielded ≡ length (slice_split is_line_feed (without_mark c.args.bytes.now)) = (YieldsList-end
    (YieldsList-at c.into_iter-text-iterator.ensures.into_iter_gives (YieldsList-from_slice_split _ is_line_feed (without_mark c.args.bytes.now) (c.split-text-items.ensures.rest ∙ c.without_byte_order_mark.ensures) c.split-text-items.ensures.done c.split-text-items.ensures.closure (λ x b q k. search (rules, tests))))
    c.loop-text.yielded c.loop-text.text-iterator c.loop-text.yielded_by c.next.result c.next.new.self c.in-None.is c.next.ensures.steps).1 in
    read_to_end-entries _ _ _ end c.loop-text.invariant ∙ sym (lines_of-split c.args.bytes.now)

pub returns-clause-good : goal.returns-clause-good
returns-clause-good c =
    let end : length c.loop-text.yielded ≡ length (slice_split is_line_feed (without_mark c.args.bytes.now)) = (YieldsList-end
    (YieldsList-at c.into_iter-text-iterator.ensures.into_iter_gives (YieldsList-from_slice_split _ is_line_feed (without_mark c.args.bytes.now) (c.split-text-items.ensures.rest ∙ c.without_byte_order_mark.ensures) c.split-text-items.ensures.done c.split-text-items.ensures.closure (λ x b q k. search (rules, tests))))
    c.loop-text.yielded c.loop-text.text-iterator c.loop-text.yielded_by c.next.result c.next.new.self c.in-None.is c.next.ensures.steps).1 in
    ap (first_fault []) (lines_of-split c.args.bytes.now) ∙ read_to_end-faults _ c.loop-text.lines.items _ end c.loop-text.invariant
