-- Laws of generated texts and words.
use Rattle.std.proofs.Common.{◌≡◌, ℕ, ◌+◌, List, [], ◌∷◌, ◌++◌, length, ap, sym, ◌∙◌}
use Rattle.std.specs.Prelude.{codes, decimal}
use Rattle.mz_num.specs.Places.{list_below}
use Rattle.mz_num.proofs.PlaceLaws.{length-list_below, list_below-more}
use Rattle.mz_draw.specs.Words.{SeatWords, word_at}
use Rattle.mz_gen.specs.Parameters.{lines_of_files, lines_of_run, parameters_text}

-- one word more
pub word_more : (number place word : ℕ) (words words' : List ℕ) (drawer : SeatWords)
    → words ≡ list_below place (λ i. word_at number 63 63 i) → drawer ≡ record { seed = number; run = 63; seat = 63; taken = place }
    → word ≡ word_at drawer.seed drawer.run drawer.seat drawer.taken → words' ≡ words ++ word ∷ []
    → words' ≡ list_below (place + 1) (λ i. word_at number 63 63 i)
word_more number place word words words' drawer so_far stands is more =
    more
    ∙ ap (λ ws. ws ++ word ∷ []) so_far
    ∙ ap (λ w. list_below place (λ i. word_at number 63 63 i) ++ w ∷ [])
    (is ∙ ap (λ (d : SeatWords). word_at d.seed d.run d.seat d.taken) stands)
    ∙ sym (list_below-more place (λ i. word_at number 63 63 i))

pub words_whole : (number place count : ℕ) (words : List ℕ) → words ≡ list_below place (λ i. word_at number 63 63 i) → place ≡ count → length words ≡ count
words_whole number place count words are whole = ap length are ∙ length-list_below place (λ i. word_at number 63 63 i) ∙ whole

-- the parameter file from its pieces
pub parameters_whole : (number shown : ℕ) (files run one two three four five : List ℕ) → files ≡ lines_of_files → run ≡ lines_of_run → shown ≡ number
    → one ≡ files → two ≡ one ++ codes "BLM 0.5\nRANDSEED " → three ≡ two ++ decimal shown → four ≡ three ++ codes "\n" → five ≡ four ++ run
    → five ≡ parameters_text number
unfolding parameters_text
parameters_whole number shown files run one two three four five are ran same e f g h i =
    i ∙ ap (λ front. front ++ run) h ∙ ap (λ front. front ++ codes "\n" ++ run) g
    ∙ ap (λ front. front ++ decimal shown ++ codes "\n" ++ run) (f ∙ ap (λ front. front ++ codes "BLM 0.5\nRANDSEED ") (e ∙ are))
    ∙ ap (λ n. lines_of_files ++ codes "BLM 0.5\nRANDSEED " ++ decimal n ++ codes "\n" ++ run) same
    ∙ ap (λ back. lines_of_files ++ codes "BLM 0.5\nRANDSEED " ++ decimal number ++ codes "\n" ++ back) ran
