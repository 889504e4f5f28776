-- How the lines of a reader follow the bytes that it had, where those are known.
use Rattle.std.proofs.Common.{◌≡◌, ◌<◌, ◌+◌, ◌∙◌, ℕ, List, [], ◌∷◌, ◌++◌, Option, Some, None, Bool, true, false, refl, sym, ap, arith, length, take, append_assoc, append-nil, subst}
use Rattle.std.specs.Bool.{MatchBool}
use Rattle.std.specs.Prelude.{nat_lt}
use Rattle.std.specs.Io.KnownBytes.{Consumes, IsAtEnd, Keeps, prepend_known}
use Rattle.std.proofs.KnownBytes.{Consumes-kept, Consumes-trans}
use Rattle.std.proofs.lemmas.Bool.{ltb-false, ltb-true}
use Rattle.std.proofs.lemmas.List.{length-take, nil_from_length}
use Rattle.wsm_log.specs.LinesOf.{AreAll, HasNoFeed, kept_lines_of, lines_of}
use Rattle.wsm_log.specs.LineBuffer.{TakesLine, TakesPart, ahead_of, line_in, most_of, part_of}
use Rattle.wsm_log.specs.Lines.{Follows, HasRest, bytes_left, line_of}
use Rattle.wsm_log.specs.declared.line_buffer.LineBuffer.{LineBuffer}
use Rattle.wsm_log.specs.declared.lines.Lines.{Lines}
use Rattle.wsm_log.proofs.BufferLemmas.{line_in-part, take-kept}
use Rattle.wsm_log.proofs.LinesLemmas.{HasNoFeed-append, lines_of-last, lines_of-line, more_lines}

-- what was read is held, or was held and taken
prepend_known-takes : (known : Option (List ℕ)) (xs ys zs : List ℕ) → xs ≡ ys ++ zs → Consumes (prepend_known xs known) (prepend_known zs known) ys
prepend_known-takes None xs ys zs is = tt
prepend_known-takes (Some bs) xs ys zs is = ap (λ (front : List ℕ). front ++ bs) is ∙ append_assoc ys zs bs

-- known bytes of which some were taken are known, and have the rest
Consumes-rest : (old new : Option (List ℕ)) (xs rest : List ℕ) → old ≡ Some rest → Consumes old new xs → (later : List ℕ) × (new ≡ Some later) × (rest ≡ xs ++ later)
Consumes-rest None new xs rest is takes = cc
Consumes-rest (Some ys) None xs rest is takes = absurd takes
Consumes-rest (Some ys) (Some later) xs rest is takes = (later, refl, cc)

-- of these bytes a beginning of a line was read, and this is kept of it
pub record ReadsPart (old new : Option (List ℕ)) (most : ℕ) (part : List ℕ) : Type 0 where
  pub seen : List ℕ
  pub plain : HasNoFeed seen
  pub kept : part ≡ take most seen
  pub takes : Consumes old new seen

-- more of it was read
pub ReadsPart-more : (old rest new : Option (List ℕ)) (a b : LineBuffer) → ReadsPart old (prepend_known (ahead_of a) rest) (most_of a) (part_of a) → TakesPart a b → Keeps (prepend_known (ahead_of b) rest) new
    → ReadsPart old new (most_of a) (part_of b)
ReadsPart-more old rest new a b reads more keeps = record {
  seen = reads.seen ++ ahead_of a;
  plain = HasNoFeed-append reads.seen (ahead_of a) reads.plain more.plain;
  kept = more.part ∙ ap (λ (part : List ℕ). take (most_of a) (part ++ ahead_of a)) reads.kept ∙ take-kept (most_of a) reads.seen (ahead_of a);
  takes = Consumes-kept _ _ _ _ (Consumes-trans _ _ _ _ _ reads.takes (prepend_known-takes rest (ahead_of a) (ahead_of a) (ahead_of b) (sym (append-nil (ahead_of a)) ∙ ap (λ (xs : List ℕ). ahead_of a ++ xs) (sym more.rest)))) keeps;
}

-- a line was read of these bytes, and its line feed, and this is kept of it
pub record ReadsLine (old new : Option (List ℕ)) (most : ℕ) (shown : List ℕ) : Type 0 where
  pub line : List ℕ
  pub plain : HasNoFeed line
  pub kept : shown ≡ take most line
  pub takes : Consumes old new (line ++ 10 ∷ [])

pub ReadsLine-of : (old rest : Option (List ℕ)) (a b : LineBuffer) → ReadsPart old (prepend_known (ahead_of a) rest) (most_of a) (part_of a) → TakesLine a b → ReadsLine old (prepend_known (ahead_of b) rest) (most_of a) (line_in b)
ReadsLine-of old rest a b reads found = record {
  line = reads.seen ++ found.piece;
  plain = HasNoFeed-append reads.seen found.piece reads.plain found.plain;
  kept = found.line ∙ ap (λ (part : List ℕ). take (most_of a) (part ++ found.piece)) reads.kept ∙ take-kept (most_of a) reads.seen found.piece;
  takes =
      let split : ahead_of a ≡ (found.piece ++ 10 ∷ []) ++ ahead_of b = found.splits ∙ sym (append_assoc found.piece (10 ∷ []) (ahead_of b)) in
      subst (Consumes old (prepend_known (ahead_of b) rest)) (sym (append_assoc reads.seen found.piece (10 ∷ [])))
      (Consumes-trans _ _ _ _ _ reads.takes (prepend_known-takes rest (ahead_of a) (found.piece ++ 10 ∷ []) (ahead_of b) split));
}

pub prepend_known-nil : (known : Option (List ℕ)) → prepend_known [] known ≡ known
prepend_known-nil None = refl
prepend_known-nil (Some bytes) = refl

-- the rest is what was read, and nothing is left
rest_is : (old new : Option (List ℕ)) (xs rest : List ℕ) → old ≡ Some rest → Consumes old new xs → IsAtEnd new → (new ≡ Some []) × (rest ≡ xs)
rest_is None new xs rest is takes end = cc
rest_is (Some ys) None xs rest is takes end = absurd takes
rest_is (Some ys) (Some zs) xs rest is takes end =
    let held : ys ≡ rest = cc in
    (ap Some end, sym held ∙ takes ∙ ap (λ (bs : List ℕ). xs ++ bs) end ∙ append-nil xs)

-- where nothing is left they are all
none_left : (longest : ℕ) (bytes : List ℕ) (lines : List (List ℕ)) (rest : List ℕ) → rest ≡ []
    → lines ++ kept_lines_of longest rest ≡ kept_lines_of longest bytes → lines ≡ kept_lines_of longest bytes
none_left longest bytes lines rest none is =
    sym (append-nil lines) ∙ ap (λ (bs : List ℕ). lines ++ kept_lines_of longest bs) (sym none) ∙ is

module _ {R : Type 0} (longest : ℕ) (remaining : R → Option (List ℕ)) where
  -- none was read
  pub HasRest-start : (known : Option (List ℕ)) (r : Lines R) → bytes_left remaining r ≡ known → (r.over ≡ true → ⊥) → HasRest longest remaining known [] r
  HasRest-start None r left unended = tt
  HasRest-start (Some bytes) r left unended = (bytes, left, (λ over. absurd (unended over)), refl)

  module _ (most : ℕ) (e : most ≡ longest + 2) where
    -- one more
    pub HasRest-line : (known : Option (List ℕ)) (lines : List (List ℕ)) (a b : Lines R) (shown : List ℕ) → HasRest longest remaining known lines a
        → ReadsLine (bytes_left remaining a) (bytes_left remaining b) most shown → (b.over ≡ true → ⊥)
        → HasRest longest remaining known (lines ++ shown ∷ []) b
    HasRest-line None lines a b shown h read unended = tt
    HasRest-line (Some bytes) lines a b shown h read unended =
        let (later, left, splits) = Consumes-rest _ _ _ h.0 h.1 read.takes in
        let is : lines_of h.0 ≡ read.line ∷ lines_of later =
        ap lines_of (splits ∙ append_assoc read.line (10 ∷ []) later) ∙ lines_of-line read.line later read.plain in
        (later, left, (λ over. absurd (unended over)), rw (read.kept, e) (more_lines longest bytes lines h.0 read.line later is h.3))

    -- the last one, without a line feed
    HasRest-last : (known : Option (List ℕ)) (lines : List (List ℕ)) (a b : Lines R) (part : List ℕ) → HasRest longest remaining known lines a
        → ReadsPart (bytes_left remaining a) (bytes_left remaining b) most part → IsAtEnd (bytes_left remaining b) → 0 < length part
        → HasRest longest remaining known (lines ++ part ∷ []) b
    HasRest-last None lines a b part h read end some = tt
    HasRest-last (Some bytes) lines a b part h read end some =
        let (left, is) = rest_is _ _ _ h.0 h.1 read.takes end in
        let some_seen : 0 < length read.seen = omega (arith, some, ap length read.kept, length-take most read.seen) in
        let last = ap lines_of is ∙ lines_of-last read.seen some_seen read.plain in
        ([], left, (λ _. refl), rw (read.kept, e) (more_lines longest bytes lines h.0 read.seen [] last h.3))

    -- all were read
    HasRest-all : (known : Option (List ℕ)) (lines : List (List ℕ)) (a : Lines R) (new : Option (List ℕ)) (part : List ℕ) → HasRest longest remaining known lines a
        → ReadsPart (bytes_left remaining a) new most part → IsAtEnd new → length part ≡ 0 → AreAll longest known lines
    HasRest-all None lines a new part h read end none = tt
    HasRest-all (Some bytes) lines a new part h read end none =
        let none_seen : read.seen ≡ [] = nil_from_length read.seen (omega (arith, none, ap length read.kept, length-take most read.seen)) in
        none_left longest bytes lines h.0 ((rest_is _ _ _ h.0 h.1 read.takes end).1 ∙ none_seen) h.3

    -- at the end: what was read of a line is the last one, or all were read
    pub HasRest-end : (known : Option (List ℕ)) (lines : List (List ℕ)) (a b : Lines R) (found : Bool) → found ≡ nat_lt 0 (length (part_of b.buffer))
        → most_of b.buffer ≡ most → HasRest longest remaining known lines a
        → ReadsPart (bytes_left remaining a) (bytes_left remaining b) most (part_of b.buffer) → IsAtEnd (bytes_left remaining b)
        → MatchBool found (Follows longest remaining known (lines ++ line_of b ∷ []) b) (AreAll longest known lines)
    HasRest-end known lines a b true is same h read end =
        let some : 0 < length (part_of b.buffer) = ltb-true 0 (length (part_of b.buffer)) (sym is) in
        let shows : List ℕ → Type 0 = λ shown. HasRest longest remaining known (lines ++ shown ∷ []) b in
        record {
          most = same ∙ e;
          rest = subst shows (sym (line_in-part b.buffer some)) (HasRest-last known lines a b (part_of b.buffer) h read end some);
        }
    HasRest-end known lines a b false is same h read end =
        let none : length (part_of b.buffer) ≡ 0 = omega (arith, ltb-false 0 (length (part_of b.buffer)) (sym is)) in
        HasRest-all known lines a (bytes_left remaining b) (part_of b.buffer) h read end none
