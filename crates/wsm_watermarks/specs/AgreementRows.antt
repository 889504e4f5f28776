-- Worked rows, computed by the definitions. Histories are written oldest stamp first.
use Rattle.std.specs.Prelude.{◌≡◌, refl, ℕ, List, [], ◌∷◌, reverse, map, Some, None}
use Rattle.wsm_watermarks.specs.declared.rule.Rule.{Rule}
use Rattle.wsm_watermarks.specs.declared.stamp.Stamp.{Stamp}
use Rattle.wsm_watermarks.specs.Agreement.{agreed, tellers, mark_after, raised_by, voices}

abbrev told : ℕ → ℕ → Stamp
told clock time = record { clock = clock; time = time }

-- three clocks; the third is a year ahead at its second stamp
abbrev stamps : List Stamp
stamps = told 1 100 ∷ told 2 90 ∷ told 3 95 ∷ told 3 31536095 ∷ told 1 130 ∷ told 2 140 ∷ []

abbrev past : List Stamp
past = reverse stamps

abbrev speak : List Stamp
speak = voices 100 past

-- two clocks tell 140 or a later time, the second and the third; all three tell 130
two_from_140 : tellers 140 speak ≡ 2
two_from_140 = refl

three_from_130 : tellers 130 speak ≡ 3
three_from_130 = refl

by_one : agreed 1 speak ≡ Some 31536095
by_one = refl

by_two : agreed 2 speak ≡ Some 140
by_two = refl

by_three : agreed 3 speak ≡ Some 130
by_three = refl

by_four : agreed 4 speak ≡ None
by_four = refl

-- where it is right again, its mistake no longer counts
right_again : map (λ most. agreed most (voices 100 (told 3 138 ∷ past))) (1 ∷ 2 ∷ 3 ∷ []) ≡ Some 140 ∷ Some 138 ∷ Some 130 ∷ []
right_again = refl

-- a clock that goes back counts once, at its last time
told_back : agreed 2 (voices 100 (reverse (told 1 100 ∷ told 2 120 ∷ told 1 110 ∷ told 2 50 ∷ told 1 10 ∷ []))) ≡ Some 10
told_back = refl

abbrev rule : ℕ → ℕ → Rule
rule agree forget = record { agree = agree; forget = forget; bound = 20; step = 10; start = 0 }

-- the watermark is 20 behind, in steps of 10
marks : map (λ agree. mark_after (rule agree 100) past) (1 ∷ 2 ∷ 3 ∷ 4 ∷ []) ≡ 31536070 ∷ 120 ∷ 110 ∷ 0 ∷ []
marks = refl

-- 90 is agreed on by two clocks, and 70 is told; 99 tells nothing more
raised : raised_by (rule 2 100) (told 1 100 ∷ []) (told 2 90) ≡ Some 70
raised = refl

not_raised : raised_by (rule 2 100) (told 2 90 ∷ told 1 100 ∷ []) (told 2 99) ≡ None
not_raised = refl

-- what is agreed on goes back, and the watermark doesn't
goes_back : map (λ past. agreed 2 (voices 100 past)) ((told 2 90 ∷ told 1 100 ∷ []) ∷ (told 1 50 ∷ told 2 90 ∷ told 1 100 ∷ []) ∷ []) ≡ Some 90 ∷ Some 50 ∷ []
goes_back = refl

stays : mark_after (rule 2 100) (told 1 50 ∷ told 2 90 ∷ told 1 100 ∷ []) ≡ 70
stays = refl

-- two clocks that are each wrong once, one behind the other: by the greatest times of all they move the watermark by a year, by the
-- last times they don't
abbrev in_turn : List Stamp
in_turn = reverse (told 1 100 ∷ told 2 90 ∷ told 1 31536100 ∷ told 1 110 ∷ told 2 31536120 ∷ told 2 125 ∷ told 3 130 ∷ [])

by_greatest : agreed 2 in_turn ≡ Some 31536100
by_greatest = refl

by_last : agreed 2 (voices 100 in_turn) ≡ Some 125
by_last = refl

not_moved : mark_after (rule 2 100) in_turn ≡ 100
not_moved = refl

-- at the same time, they do
moved : mark_after (rule 2 100) (reverse (told 1 31536100 ∷ told 2 31536120 ∷ told 1 110 ∷ told 2 125 ∷ [])) ≡ 31536080
moved = refl

-- a clock that died with a wrong time is forgotten; the first of these is among the last six stamps, and not among the last five
abbrev dead : List Stamp
dead = reverse (told 1 31536100 ∷ told 2 100 ∷ told 3 105 ∷ told 2 110 ∷ told 3 115 ∷ told 4 31536120 ∷ [])

known : agreed 2 (voices 6 dead) ≡ Some 31536100
known = refl

forgotten : agreed 2 (voices 5 dead) ≡ Some 115
forgotten = refl

-- where it speaks again, it counts again
again : agreed 2 (voices 5 (told 1 31536101 ∷ dead)) ≡ Some 31536101
again = refl

-- one clock is enough: the greatest time so far
plain : mark_after (rule 1 100) (reverse (told 1 100 ∷ told 2 150 ∷ told 2 90 ∷ [])) ≡ 130
plain = refl
