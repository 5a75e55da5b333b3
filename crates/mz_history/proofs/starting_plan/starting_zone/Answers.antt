use Rattle.std.proofs.Common.{arith, ap}
use Rattle.mz_draw.specs.Words.{SeatWords}
use Rattle.mz_history.proofs.StartLemmas.{allowed_at, drawn-is, few_zones, has_words, no_words, some_zone, starts_drawn, starts_fixed, starts_resting, still-is, two_words, words_left}
use Rattle.mz_history.proofs.starting_plan.starting_zone.Goals as goal

pub bounds-zones-0 : goal.bounds-zones-0
bounds-zones-0 c = some_zone _ _ _ c.requires.valid c.requires.unit c.allowed_zones-zones.ensures.zones

pub returns-then-zones-lt2-clause-zone : goal.returns-then-zones-lt2-clause-zone
returns-then-zones-lt2-clause-zone c = starts_fixed _ c.args.prop _ _ _ _ c.allowed_zones-zones.ensures.zones c.if-zones-lt2.true

pub returns-then-zones-lt2-clause-allowed : goal.returns-then-zones-lt2-clause-allowed
returns-then-zones-lt2-clause-allowed c = allowed_at _ _ 0 _ c.allowed_zones-zones.ensures.zones (some_zone _ _ _ c.requires.valid c.requires.unit c.allowed_zones-zones.ensures.zones)

pub returns-then-zones-lt2-clause-words : goal.returns-then-zones-lt2-clause-words
returns-then-zones-lt2-clause-words c = no_words _ _ _ _ c.allowed_zones-zones.ensures.zones c.if-zones-lt2.true c.requires.words

pub word-chance-requires : goal.word-chance-requires
word-chance-requires c = omega (arith, words_left _ _ _ c.requires.valid c.requires.unit c.requires.words)

pub word-choice-requires : goal.word-choice-requires
word-choice-requires c = omega (arith, words_left _ _ _ c.requires.valid c.requires.unit c.requires.words, ap (λ (w : SeatWords). w.taken) c.word-chance.ensures.taken)

pub overflow_cast-zones : goal.overflow_cast-zones
overflow_cast-zones c = omega (arith, few_zones _ _ _ c.requires.valid c.allowed_zones-zones.ensures.zones)

pub returns-then-from-share_of_words-clause-zone : goal.returns-then-from-share_of_words-clause-zone
returns-then-from-share_of_words-clause-zone c =
    starts_drawn _ c.args.prop _ _ _ c.word-chance.result c.word-choice.result _ _ c.allowed_zones-zones.ensures.zones (omega (arith, c.if-zones-lt2.false))
    (has_words _ _ _ _ _ _ c.requires.seat c.requires.words c.word-chance.ensures.word c.word-chance.ensures.taken c.word-choice.ensures.word)
    (drawn-is _ _ _ _ c.from.ensures c.share_of_words.ensures c.if-from-share_of_words.true) c.pick.ensures.value

pub returns-then-from-share_of_words-clause-allowed : goal.returns-then-from-share_of_words-clause-allowed
returns-then-from-share_of_words-clause-allowed c = allowed_at _ _ c.pick.result _ c.allowed_zones-zones.ensures.zones c.pick.ensures.below

pub returns-then-from-share_of_words-clause-words : goal.returns-then-from-share_of_words-clause-words
returns-then-from-share_of_words-clause-words c = two_words _ _ _ _ _ _ c.allowed_zones-zones.ensures.zones (omega (arith, c.if-zones-lt2.false)) c.requires.words c.word-chance.ensures.taken c.word-choice.ensures.taken

pub returns-else-from-share_of_words-clause-zone : goal.returns-else-from-share_of_words-clause-zone
returns-else-from-share_of_words-clause-zone c =
    starts_resting _ c.args.prop _ _ _ c.word-chance.result c.word-choice.result _ _ c.allowed_zones-zones.ensures.zones (omega (arith, c.if-zones-lt2.false))
    (has_words _ _ _ _ _ _ c.requires.seat c.requires.words c.word-chance.ensures.word c.word-chance.ensures.taken c.word-choice.ensures.word)
    (still-is _ _ _ _ c.from.ensures c.share_of_words.ensures (omega (arith, c.if-from-share_of_words.false))) c.resting_zone.ensures.zone

pub returns-else-from-share_of_words-clause-words : goal.returns-else-from-share_of_words-clause-words
returns-else-from-share_of_words-clause-words c = two_words _ _ _ _ _ _ c.allowed_zones-zones.ensures.zones (omega (arith, c.if-zones-lt2.false)) c.requires.words c.word-chance.ensures.taken c.word-choice.ensures.taken
