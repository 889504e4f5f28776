-- Walks through the tokens of a text.
use Rattle.std.proofs.Common.{◌≡◌, ℕ, ◌<◌, Bool, true, false, true≢false, List, [], ◌∷◌, ◌++◌, Option, Some, None, is_some, refl, sym, ◌∙◌, ap, append_assoc, arith}
use Rattle.std.specs.Prelude.{unwrap_or, codes}
use Rattle.wsm_tokens.specs.Tokens.{Token, Tokens, Then, End, Bad}
use Rattle.wsm_tokens.specs.Read.{begins, behind, count, in_sight}
use Rattle.wsm_explain.specs.declared.parts.Open.{Open}
use Rattle.wsm_explain.specs.declared.parts.Span.{Span}
use Rattle.wsm_explain.specs.declared.parts.Turn.{Turn}
use Rattle.wsm_explain.specs.Parts.{begun, closed, ended, place_of, spans_from, turn_of}
use Rattle.wsm_explain.specs.Sums.{gap, told_from, told_token}

-- where a token is in sight, some are left
pub seen_counts : (ts : Tokens) → is_some (in_sight ts) ≡ true → 0 < count ts
unfolding count in_sight
seen_counts (Then t at rest) e = omega arith
seen_counts (End at) e = absurd (true≢false (sym e))
seen_counts (Bad fault at) e = absurd (true≢false (sym e))

-- the parts so far and those from the open one on, behind one token more
pub spans_on : (o : Open) (ts : Tokens) (done whole : List Span) → is_some (in_sight ts) ≡ true → done ++ spans_from o ts ≡ whole
    → (done ++ ended o (place_of ts) (begun (turn_of o.piece ts) (place_of ts) (place_of (behind ts))))
    ++ spans_from (unwrap_or (begun (turn_of o.piece ts) (place_of ts) (place_of (behind ts))) o) (behind ts) ≡ whole
unfolding spans_from in_sight behind
spans_on o (Then t at rest) done whole e h = append_assoc done _ _ ∙ h
spans_on o (End at) done whole e h = absurd (true≢false (sym e))
spans_on o (Bad fault at) done whole e h = absurd (true≢false (sym e))

-- the same of what the code has in hand
pub spans_step : (o p : Open) (ts rest : Tokens) (done new whole : List Span) (at after : ℕ) (turn : Turn) (next : Option Open)
    → is_some (in_sight ts) ≡ true → rest ≡ behind ts → at ≡ place_of ts → after ≡ place_of rest → turn ≡ turn_of o.piece ts → next ≡ begun turn at after
    → new ≡ done ++ ended o at next → p ≡ unwrap_or next o → done ++ spans_from o ts ≡ whole → new ++ spans_from p rest ≡ whole
spans_step o p ts rest done new whole at after turn next seen rest_is at_is after_is turn_is next_is new_is part_is h =
    let found : Option Open = begun (turn_of o.piece ts) (place_of ts) (place_of (behind ts)) in
    let next_found : next ≡ found =
    next_is ∙ ap (λ (t : Turn). begun t at after) turn_is ∙ ap (λ (a : ℕ). begun (turn_of o.piece ts) a after) at_is
    ∙ ap (λ (a : ℕ). begun (turn_of o.piece ts) (place_of ts) a) (after_is ∙ ap place_of rest_is) in
    let spans : List Span = done ++ ended o (place_of ts) found in
    let spans_found : new ≡ spans = new_is ∙ ap (λ (a : ℕ). done ++ ended o a next) at_is ∙ ap (λ (n : Option Open). done ++ ended o (place_of ts) n) next_found in
    let part_found : p ≡ unwrap_or found o = part_is ∙ ap (λ (n : Option Open). unwrap_or n o) next_found in
    ap (λ (s : List Span). s ++ spans_from p rest) spans_found ∙ ap (λ (q : Open). spans ++ spans_from q rest) part_found
    ∙ ap (λ (r : Tokens). spans ++ spans_from (unwrap_or found o) r) rest_is ∙ spans_on o ts done whole seen h

-- the last part, where no token is left
pub last_span : (o : Open) (ts : Tokens) → is_some (in_sight ts) ≡ false → spans_from o ts ≡ closed o (place_of ts) ∷ []
unfolding spans_from in_sight
last_span o (Then t at rest) e = absurd (true≢false e)
last_span o (End at) e = refl
last_span o (Bad fault at) e = refl

some_is : (u t : Token) → Some u ≡ Some t → u ≡ t
some_is u t e = ap (λ (o : Option Token). unwrap_or o u) e

-- what was told so far and what is told of the rest, behind one token more
pub told_on : (is_first is_behind : Bool) (ts : Tokens) (t : Token) (done whole : List ℕ) → in_sight ts ≡ Some t → done ++ told_from is_first is_behind ts ≡ whole
    → (done ++ (gap is_first ++ told_token is_behind t)) ++ told_from false (begins (codes "RECORDS") ts) (behind ts) ≡ whole
unfolding told_from in_sight behind
told_on is_first is_behind (Then u at rest) t done whole e h =
    ap (λ (x : Token). (done ++ (gap is_first ++ told_token is_behind x)) ++ told_from false (begins (codes "RECORDS") (Then u at rest)) rest) (sym (some_is u t e))
    ∙ append_assoc done (gap is_first ++ told_token is_behind u) (told_from false (begins (codes "RECORDS") (Then u at rest)) rest) ∙ h
told_on is_first is_behind (End at) t done whole e h = absurd (true≢false (sym (ap is_some e)))
told_on is_first is_behind (Bad fault at) t done whole e h = absurd (true≢false (sym (ap is_some e)))

-- the same of what the code has in hand
pub told_step : (is_first is_behind records : Bool) (ts rest : Tokens) (t : Token) (done new whole : List ℕ)
    → Some t ≡ in_sight ts → records ≡ begins (codes "RECORDS") ts → rest ≡ behind ts → new ≡ done ++ (gap is_first ++ told_token is_behind t)
    → done ++ told_from is_first is_behind ts ≡ whole → new ++ told_from false records rest ≡ whole
told_step is_first is_behind records ts rest t done new whole seen records_is rest_is new_is h =
    let told : List ℕ = done ++ (gap is_first ++ told_token is_behind t) in
    ap (λ (s : List ℕ). s ++ told_from false records rest) new_is ∙ ap (λ (b : Bool). told ++ told_from false b rest) records_is
    ∙ ap (λ (r : Tokens). told ++ told_from false (begins (codes "RECORDS") ts) r) rest_is ∙ told_on is_first is_behind ts t done whole (sym seen) h

-- nothing, where no token is left
pub told_end : (is_first is_behind : Bool) (ts : Tokens) → in_sight ts ≡ None → told_from is_first is_behind ts ≡ []
unfolding told_from in_sight
told_end is_first is_behind (Then t at rest) e = absurd (true≢false (ap is_some e))
told_end is_first is_behind (End at) e = refl
told_end is_first is_behind (Bad fault at) e = refl
