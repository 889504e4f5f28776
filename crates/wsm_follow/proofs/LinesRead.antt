-- A part of a line that was read, and lines that end behind it.
use Rattle.std.proofs.Common.{◌≡◌, ◌≤◌, ◌<◌, ◌+◌, ◌-◌, ◌∙◌, ◌==◌, ℕ, suc, List, [], ◌∷◌, ◌++◌, ap, ap₂, arith, append_assoc, drop, get_or, length, length-append, length-take-le, map, min, refl, subst, sym, take, true, zero}
use Rattle.std.proofs.lemmas.List.{drop_all, take-take, take_all}
use Rattle.std.proofs.lemmas.Bool.{eqb-true}
use Rattle.std.proofs.Math.Seq.{take-nil, take-suc}
use Rattle.wsm_log.proofs.BufferLemmas.{split_at_feed, take-kept, take-more}
use Rattle.wsm_log.proofs.LinesLemmas.{HasNoFeed-append}
use Rattle.wsm_log.specs.LinesOf.{HasNoFeed, lines_of}
use Rattle.wsm_follow.specs.Ended.{ended_lines}
use Rattle.wsm_follow.specs.Logs.{StandsAt}
use Rattle.wsm_follow.proofs.EndedLemmas.{ended-kept, ended-plain, lines_of-ended, stands_behind, stands_more}

-- from one offset up to another no line feed was read, and as much is kept of that as is wanted of a line
pub record ReadsPart (most : ℕ) (known : List ℕ) (start at : ℕ) (part : List ℕ) : Type 0 where
  pub seen : List ℕ
  pub plain : HasNoFeed seen
  pub read : drop start known ≡ seen ++ drop at known
  pub kept : part ≡ take most seen

-- nothing was read
pub part_of-nothing : (most : ℕ) (known : List ℕ) (start : ℕ) → ReadsPart most known start start []
part_of-nothing most known start = record { seen = []; plain = tt; read = refl; kept = sym (take-nil most) }

-- what stands up to a line feed
pub cut_at_feed : (place : ℕ) (chunk : List ℕ) → place < length chunk → (get_or chunk place 0 == 10) ≡ true → take (place + 1) chunk ≡ take place chunk ++ 10 ∷ []
cut_at_feed place chunk within is =
    let next : place + 1 ≡ suc place = omega arith in
    ap (λ (n : ℕ). take n chunk) next ∙ take-suc chunk place 0 within ∙ ap (λ (b : ℕ). take place chunk ++ b ∷ []) (eqb-true (get_or chunk place 0) 10 is)

-- bytes with a line feed, behind a part of a line
pub reads_lines : (most : ℕ) (known : List ℕ) (start at place : ℕ) (part chunk text : List ℕ) → ReadsPart most known start at part → StandsAt known at chunk
    → place < length chunk → (get_or chunk place 0 == 10) ≡ true → text ≡ part ++ take (place + 1) chunk
    → map (take most) (ended_lines text) ++ map (take most) (ended_lines (drop (at + (place + 1)) known)) ≡ map (take most) (ended_lines (drop start known))
reads_lines most known start at place part chunk text reads stands within is added =
    let front = take place chunk in
    let rest = drop (at + (place + 1)) known in
    let back = drop (place + 1) chunk in
    let whole : text ≡ take most reads.seen ++ (front ++ 10 ∷ []) = added ∙ ap₂ (λ (xs ys : List ℕ). xs ++ ys) reads.kept (cut_at_feed place chunk within is) in
    let behind : rest ≡ back ++ drop (at + length chunk) known = stands_behind known at (place + 1) chunk (omega (arith, within)) stands in
    let there : drop start known ≡ reads.seen ++ (front ++ 10 ∷ rest) =
    reads.read ∙ ap (λ (xs : List ℕ). reads.seen ++ xs) (stands
    ∙ ap (λ (xs : List ℕ). xs ++ drop (at + length chunk) known) (split_at_feed place chunk within is)
    ∙ append_assoc front (10 ∷ back) (drop (at + length chunk) known)
    ∙ ap (λ (xs : List ℕ). front ++ 10 ∷ xs) (sym behind)) in
    ap (λ (xs : List ℕ). map (take most) (ended_lines xs) ++ map (take most) (ended_lines rest)) whole
    ∙ ended-kept most reads.seen front rest reads.plain
    ∙ ap (λ (xs : List ℕ). map (take most) (ended_lines xs)) (sym there)

-- the text is whole lines
pub reads_whole : (place : ℕ) (part chunk text : List ℕ) → place < length chunk → (get_or chunk place 0 == 10) ≡ true → text ≡ part ++ take (place + 1) chunk → lines_of text ≡ ended_lines text
reads_whole place part chunk text within is added =
    let whole : text ≡ (part ++ take place chunk) ++ 10 ∷ [] = added ∙ ap (λ (xs : List ℕ). part ++ xs) (cut_at_feed place chunk within is) ∙ sym (append_assoc part (take place chunk) (10 ∷ [])) in
    ap lines_of whole ∙ sym (lines_of-ended (part ++ take place chunk)) ∙ ap ended_lines (sym whole)

-- more bytes without a line feed
pub reads_more : (most : ℕ) (known : List ℕ) (start at : ℕ) (part chunk grown : List ℕ) → ReadsPart most known start at part → StandsAt known at chunk → HasNoFeed chunk → length part ≤ most
    → grown ≡ part ++ take (min (length chunk) (most - length part)) chunk → ReadsPart most known start (at + length chunk) grown
reads_more most known start at part chunk grown reads stands plain short added = record {
  seen = reads.seen ++ chunk;
  plain = HasNoFeed-append reads.seen chunk reads.plain plain;
  read = stands_more known start at reads.seen chunk reads.read stands;
  kept = added ∙ sym (take-more most (length chunk) part chunk short)
      ∙ ap (λ (xs : List ℕ). take most (part ++ xs)) (take_all (length chunk) chunk (omega arith))
      ∙ ap (λ (xs : List ℕ). take most (xs ++ chunk)) reads.kept ∙ take-kept most reads.seen chunk;
}

-- where the file has no more, no line ends
pub reads_none : (most : ℕ) (known : List ℕ) (start at : ℕ) (part : List ℕ) → ReadsPart most known start at part → length known ≤ at → ended_lines (drop start known) ≡ []
reads_none most known start at part reads over =
    ap ended_lines (reads.read ∙ ap (λ (xs : List ℕ). reads.seen ++ xs) (drop_all at known over)) ∙ ended-plain [] reads.seen [] reads.plain

-- more bytes without a line feed, of which as much is kept as is wanted
pub reads_kept : (most : ℕ) (known : List ℕ) (start at count len : ℕ) (part room grown : List ℕ) → ReadsPart most known start at part → StandsAt known at (take count room) → HasNoFeed (take count room)
    → count ≤ length room → length part ≡ len → length part ≤ most → grown ≡ part ++ take (min count (most - len)) room → ReadsPart most known start (at + count) grown
reads_kept most known start at count len part room grown reads stands plain within is short added =
    let chunk = take count room in
    let long : length chunk ≡ count = length-take-le count room within in
    let fewer : min count (most - len) ≤ count = omega arith in
    let small : min (length chunk) (most - length part) ≡ min count (most - len) = ap₂ min long (ap (λ (n : ℕ). most - n) is) in
    let same : take (min count (most - len)) room ≡ take (min (length chunk) (most - length part)) chunk =
    sym (take-take (min count (most - len)) count room fewer) ∙ ap (λ (n : ℕ). take n chunk) (sym small) in
    subst (λ (n : ℕ). ReadsPart most known start (at + n) grown) long
    (reads_more most known start at part chunk grown reads stands plain short (added ∙ ap (λ (xs : List ℕ). part ++ xs) same))

take_short : (n : ℕ) (xs : List ℕ) → length (take n xs) ≤ n
take_short zero xs = omega arith
take_short (suc n) [] = omega arith
take_short (suc n) (x ∷ xs) = omega (arith, take_short n xs)

-- how long a text is to which some of a room is added
pub added_short : (count : ℕ) (part room grown : List ℕ) → grown ≡ part ++ take count room → length grown ≤ length part + count
added_short count part room grown added = omega (arith, ap length added, length-append part (take count room), take_short count room)
