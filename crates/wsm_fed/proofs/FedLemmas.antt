-- A line that ends, in what comes of some bytes.
use Rattle.std.proofs.Common.{◌≡◌, ◌<◌, ◌∙◌, ◌+◌, ℕ, List, [], ◌∷◌, ◌++◌, Option, Some, None, MatchOption, Ok, Err, Bool, true, false, ap, arith, drop, length, map, refl, sym, take, if◌then◌else◌}
use Rattle.std.proofs.lemmas.List.{take-take}
use Rattle.memchr.specs.Find.{IsFirstByte, is_byte}
use Rattle.wsm_log.specs.LinesOf.{HasNoFeed}
use Rattle.wsm_log.proofs.BufferLemmas.{split_at_feed}
use Rattle.wsm_log.proofs.LinesLemmas.{HasNoFeed-before, HasNoFeed-none}
use Rattle.wsm_follow.specs.Ended.{ended_from, ended_lines}
use Rattle.wsm_follow.proofs.EndedLemmas.{ended-alike, ended-plain}
use Rattle.wsm_fed.specs.Fed.{Stand, Step, came_by, came_from, step, with_chunk}
use Rattle.wsm_fed.specs.Seen.{EndsBy, Hears, StopsAt, Went, came_of, chunk_in, left_in, stand_in, stand_of}
use Rattle.wsm_fed.specs.declared.fault.FedFault.{FedFault}
use Rattle.wsm_fed.specs.declared.fault.FedFault.TheVariants as fault
use Rattle.wsm_fed.specs.declared.fed.Fed.{Fed}
use Rattle.wsm_fed.specs.declared.held.Held.{Held}

-- ---- where a line ends

-- what stands in front of a line feed, and behind it
pub record Parts (text : List ℕ) (end : ℕ) : Type 0 where
  pub within : end < length text
  pub plain : HasNoFeed (take end text)
  pub parts : text ≡ take end text ++ 10 ∷ drop (end + 1) text

pub feed_parts : (text : List ℕ) (found : Option ℕ) → IsFirstByte (is_byte 10) text found → MatchOption found (HasNoFeed text) (Parts text)
feed_parts text None none = HasNoFeed-none text (λ k small here. none k (omega arith) small here)
feed_parts text (Some end) first = record {
  within = first.0.high;
  plain = HasNoFeed-before text end (omega (arith, first.0.high)) (λ k small here. first.0.before k (omega arith) small here);
  parts = split_at_feed end text first.0.high first.1;
}

-- ---- what comes of bytes

-- behind a part of a line its end, and more
pub line_came : (s : Stand) (most : ℕ) (part line rest : List ℕ) → HasNoFeed line
    → came_from s (map (take most) (ended_from part (line ++ 10 ∷ rest))) ≡ came_by (step s (take most (part ++ line))) (λ next. came_from next (map (take most) (ended_lines rest)))
unfolding came_from
line_came s most part line rest plain = ap (λ (lines : List (List ℕ)). came_from s (map (take most) lines)) (ended-plain part line (10 ∷ rest) plain)

-- behind a part of a line a piece of it more, of which as much is kept as is read
pub piece_came : (s : Stand) (most : ℕ) (part piece more : List ℕ) → HasNoFeed piece
    → came_from s (map (take most) (ended_from part (piece ++ more))) ≡ came_from s (map (take most) (ended_from (take most (part ++ piece)) more))
piece_came s most part piece more plain =
    let whole = part ++ piece in
    let alike : map (take most) (ended_from whole more) ≡ map (take most) (ended_from (take most whole) more) = ended-alike most whole (take most whole) more (sym (take-take most most whole (omega arith))) in
    ap (λ (lines : List (List ℕ)). came_from s (map (take most) lines)) (ended-plain part piece more plain) ∙ ap (came_from s) alike

pub came_by_parts : (f : Fed) (s : Stand) (most : ℕ) (part bytes : List ℕ) → stand_of f ≡ s → f.most ≡ most → f.part.items ≡ part → came_of f bytes ≡ came_from s (map (take most) (ended_from part bytes))
came_by_parts f s most part bytes stands is begun =
    ap (λ (t : Stand). came_from t (map (take f.most) (ended_from f.part.items bytes))) stands
    ∙ ap (λ (n : ℕ). came_from s (map (take n) (ended_from f.part.items bytes))) is
    ∙ ap (λ (p : List ℕ). came_from s (map (take most) (ended_from p bytes))) begun

abbrev stand_by : Held → Bool → Stand
stand_by h given = if given then left_in h else stand_in h

given_stand : (f : Fed) (b : Bool) → f.is_given ≡ b → stand_of f ≡ stand_by f.held b
given_stand f b given = ap (stand_by f.held) given

-- ---- a line that ends

heard_came : (f : Fed) (line rest : List ℕ) (t : Step) → f.is_given ≡ false → HasNoFeed line → step (stand_in f.held) (take f.most (f.part.items ++ line)) ≡ t
    → came_of f (line ++ 10 ∷ rest) ≡ came_by t (λ next. came_from next (map (take f.most) (ended_lines rest)))
heard_came f line rest t given plain is =
    came_by_parts f (stand_in f.held) f.most f.part.items (line ++ 10 ∷ rest) (given_stand f false given) refl refl
    ∙ line_came (stand_in f.held) f.most f.part.items line rest plain
    ∙ ap (λ (u : Step). came_by u (λ next. came_from next (map (take f.most) (ended_lines rest)))) is

left_came : (h : Held) (most as_many : ℕ) (part : List ℕ) (b : Bool) (rest : List ℕ) → part ≡ [] → as_many ≡ most
    → came_from (stand_by h b) (map (take most) (ended_lines rest)) ≡ came_from (stand_by h b) (map (take as_many) (ended_from part rest))
left_came h most as_many part b rest empty is =
    ap (λ (n : ℕ). came_from (stand_by h b) (map (take n) (ended_lines rest))) (sym is) ∙ ap (λ (p : List ℕ). came_from (stand_by h b) (map (take as_many) (ended_from p rest))) (sym empty)

pub ends_line : (f : Fed) (h : Held) (most : ℕ) (part line : List ℕ) (b : Bool) → f.is_given ≡ false → HasNoFeed line → Hears (step (stand_in f.held) (take f.most (f.part.items ++ line))) h (Ok b)
    → part ≡ [] → most ≡ f.most → EndsBy f line (chunk_in h) (λ rest. came_from (stand_by h b) (map (take most) (ended_from part rest))) b
ends_line f h most part line true given plain hears empty is = λ rest. heard_came f line rest _ given plain hears ∙ ap (with_chunk (chunk_in h)) (left_came h f.most most part true rest empty is)
ends_line f h most part line false given plain hears empty is = λ rest. heard_came f line rest _ given plain hears ∙ left_came h f.most most part false rest empty is

pub ends_broken : (f : Fed) (h : Held) (line : List ℕ) (why : FedFault) → f.is_given ≡ false → HasNoFeed line → Hears (step (stand_in f.held) (take f.most (f.part.items ++ line))) h (Err why) → StopsAt f line why
ends_broken f h line fault.Memory given plain hears = tt
ends_broken f h line fault.Other given plain hears = λ rest. heard_came f line rest _ given plain hears
ends_broken f h line (fault.Line number why) given plain hears = λ rest. heard_came f line rest _ given plain hears

-- ---- bytes of which lines end

-- so far bytes were taken, and these are left
abbrev pub Took : Fed → List ℕ → Fed → List ℕ → Type 0
Took old bytes f rest = (more : List ℕ) → came_of old (bytes ++ more) ≡ came_of f (rest ++ more)

-- the last ones end no line
pub went_all : (old f n : Fed) (bytes text : List ℕ) → Took old bytes f text → HasNoFeed text → stand_of n ≡ stand_of f → n.most ≡ f.most → n.part.items ≡ take f.most (f.part.items ++ text) → Went old bytes n None
went_all old f n bytes text took plain stands most part = λ more.
    took more ∙ piece_came (stand_of f) f.most f.part.items text more plain ∙ sym (came_by_parts n (stand_of f) f.most (take f.most (f.part.items ++ text)) more stands most part)

pub stand_same : (n f : Fed) → n.held ≡ f.held → n.is_given ≡ f.is_given → stand_of n ≡ stand_of f
stand_same n f held given = ap (λ (h : Held). stand_by h n.is_given) held ∙ ap (stand_by f.held) given
