-- Readers that read what is spelled, and nothing else, and how they are put together.
use Rattle.std.proofs.Common.{lit<, ◌≡◌, ℕ, zero, suc, ◌+◌, ◌^◌, ◌%◌, ◌<◌, ◌≤◌, Bool, true, false, cond, leb, ltb, List, [], ◌∷◌, ◌++◌, Option, None, Some, length, get_or, take, drop, ℤ, pos, negsuc, Result, Ok, Err, refl, sym, ap, subst, ◌∙◌, append_assoc, arith, SFits, inl, inr}
use Rattle.std.specs.Prelude.{ok_or, ◌==◌}
use Rattle.std.specs.List.{flat_map}
use Rattle.std.specs.Int.{Width, w8, w16, w64, byte_len, to_le_bytes, from_le_bytes, cast_signed, cast_unsigned}
use Rattle.std.proofs.Math.Facts.{sfits_to_z}
use Rattle.std.proofs.lemmas.Bool.{cases_lt, ltb-false, le-ltb, leb-true, and_parts}
use Rattle.std.proofs.lemmas.List.{take-append-drop, take_at, drop_at, length-append, length-take, get_or-drop, get_or-take, get_or_past}
use Rattle.std.proofs.lemmas.Int.{ints, of_z-to_z, to_z-of_z}
use Rattle.std.proofs.lemmas.Nat.{le_bytes_2, le_bytes_8, from_le_bytes-to_le_bytes_2, from_le_bytes-to_le_bytes_8}
use Rattle.wsm_program.specs.declared.refusal.DecodeRefusal.{DecodeRefusal}
use Rattle.wsm_program.specs.declared.refusal.DecodeRefusal.TheVariants.{Truncated, Operand}
use Rattle.wsm_program.specs.Instructions.{truth}
use Rattle.wsm_program.proofs.Within.{at_most}
use Rattle.wsm_record.specs.Name.{is_between}
use Rattle.wsm_record.specs.Schema.{is_i64}
use Rattle.wsm_bytecode.specs.Parts.{byte, number, long, signed}
use Rattle.wsm_bytecode.specs.Steps.{Read, ◌>>=◌, bytes_at, number_at, signed_at, judged, truth_at, tagged, in_turn}

abbrev pub IsBytes : List ℕ → Type 0
IsBytes bytes = (i : ℕ) → get_or bytes i 0 < 256

IsBytes-drop : (n : ℕ) (bytes : List ℕ) → IsBytes bytes → IsBytes (drop n bytes)
IsBytes-drop n bytes h i = rw get_or-drop (h (n + i))

IsBytes-take : (n : ℕ) (bytes : List ℕ) → IsBytes bytes → IsBytes (take n bytes)
IsBytes-take n bytes h i =
    elim (cases_lt i n) [
      | inl lt ↦ rw (get_or-take n bytes i 0 lt) (h i)
      | inr le ↦ rw (get_or_past (take n bytes) i 0 (omega (arith, length-take n bytes))) (omega arith)
    ]

-- ---- results

-- the value of a step that did not fail
pub bind_then : {A B P : Type 0} (r : Result A DecodeRefusal) (f : A → Result B DecodeRefusal) (y : B) → (r >>= f) ≡ Ok y → ((x : A) → r ≡ Ok x → f x ≡ Ok y → P) → P
bind_then (Ok x) f y e go = go x refl e
bind_then (Err d) f y e go = absurd cc

abbrev done : {A : Type 0} → A → Result A DecodeRefusal
done x = Ok x

pub ok_is : {A : Type 0} (x y : A) → done x ≡ done y → x ≡ y
ok_is x y e = cc

-- tests that did not fail
guard_ok : {A : Type 0} (b : Bool) (d : DecodeRefusal) (x y : A) → cond b (Err d) (Ok x) ≡ Ok y → (b ≡ false) × (x ≡ y)
guard_ok true d x y e = absurd cc
guard_ok false d x y e = (refl, cc)

pub test_ok : {A : Type 0} (b : Bool) (d : DecodeRefusal) (x y : A) → cond b (Ok x) (Err d) ≡ Ok y → (b ≡ true) × (x ≡ y)
test_ok true d x y e = (refl, cc)
test_ok false d x y e = absurd cc

-- what was asked for was there
there_is : {A : Type 0} (found : Option A) (d : DecodeRefusal) (x : A) → ok_or found d ≡ Ok x → found ≡ Some x
there_is None d x e = absurd cc
there_is (Some y) d x e = ap Some (ok_is y x e)

-- ---- what is read exactly

abbrev pub Any : {A : Type 0} → A → Type 0
Any x = Unit {0}

-- the bytes are the spelling of a good value and the rest
pub record Took {A : Type 0} (Among Good : A → Type 0) (spell : A → List ℕ) (bytes : List ℕ) (x : A × List ℕ) : Type 0 where
  pub parts : bytes ≡ spell x.0 ++ x.1
  pub fits : IsBytes x.1
  pub among : Among x.0
  pub good : Good x.0

-- Of the values that come in question, the reader reads the good ones of their spellings, and of nothing else.
pub record Codes {A : Type 0} (Among Good : A → Type 0) (read : List ℕ → Read A) (spell : A → List ℕ) : Type 0 where
  pub again : (x : A) (rest : List ℕ) → Among x → Good x → read (spell x ++ rest) ≡ Ok (x, rest)
  pub taken : (bytes : List ℕ) (x : A × List ℕ) → IsBytes bytes → read bytes ≡ Ok x → Took Among Good spell bytes x

-- the same in other words
pub in_words : {A : Type 0} {K L P Q : A → Type 0} {r : List ℕ → Read A} {s t : A → List ℕ} → Codes K P r s → ((x : A) → L x → Q x → s x ≡ t x) → ((x : A) → L x → Q x → K x × P x) → ((x : A) → K x → P x → L x × Q x) → Codes L Q r t
in_words {A} {K} {L} {P} {Q} {r} {s} {t} c same from to = record {
  again = λ x rest l q. (let g = from x l q in ap (λ b. r (b ++ rest)) (sym (same x l q)) ∙ c.again x rest g.0 g.1);
  taken = λ bytes x fits e. (
      let u = c.taken bytes x fits e in
      let v = to x.0 u.among u.good in
      record { parts = u.parts ∙ ap (λ b. b ++ x.1) (same x.0 v.0 v.1); fits = u.fits; among = v.0; good = v.1 }
      );
}

-- good where something else is
pub good_so : {A : Type 0} {K P Q : A → Type 0} {r : List ℕ → Read A} {s t : A → List ℕ} → Codes K P r s → ((x : A) → s x ≡ t x) → ((x : A) → K x → Q x → P x) → ((x : A) → K x → P x → Q x) → Codes K Q r t
good_so c same from to = in_words c (λ x _ _. same x) (λ x k q. (k, from x k q)) (λ x k p. (k, to x k p))

-- spelled otherwise
pub respelled : {A : Type 0} {K P : A → Type 0} {r : List ℕ → Read A} {s t : A → List ℕ} → Codes K P r s → ((x : A) → s x ≡ t x) → Codes K P r t
respelled c same = good_so c same (λ x _ p. p) (λ x _ p. p)

-- what comes in question is a part of what is good
pub all_good : {A : Type 0} {K P : A → Type 0} {r : List ℕ → Read A} {s : A → List ℕ} → Codes K P r s → Codes Any (λ x. K x × P x) r s
all_good {A} {K} {P} {r} {s} c = record {
  again = λ x rest _ g. c.again x rest g.0 g.1;
  taken = λ bytes x fits e. (let u = c.taken bytes x fits e in record { parts = u.parts; fits = u.fits; among = tt; good = (u.among, u.good) });
}

-- none that comes in question
pub refused : {A : Type 0} {K P : A → Type 0} {s : A → List ℕ} (d : DecodeRefusal) → ((x : A) → K x → P x → ⊥) → Codes K P (λ bytes. Err d) s
refused d no_such = record { again = λ x rest k g. absurd (no_such x k g); taken = λ bytes x fits e. absurd cc }

-- the one value that comes in question
pub just : {B : Type 0} {K Q : B → Type 0} {t : B → List ℕ} (y : B) → K y → ((z : B) → K z → z ≡ y) → [] ≡ t y → Q y → Codes K Q (λ bytes. Ok (y, bytes)) t
just {B} {K} {Q} {t} y k alone none good = record {
  again = λ z rest h _. ap (λ (b : List ℕ). Ok (y, b ++ rest)) (ap t (alone z h) ∙ sym none) ∙ ap (λ (x : B). Ok (x, rest)) (sym (alone z h));
  taken = λ bytes x fits e. subst (λ (p : B × List ℕ). Took K Q t bytes p) (ok_is (y, bytes) x e) (record { parts = ap (λ b. b ++ bytes) none; fits = fits; among = k; good = good });
}

pub made : {B : Type 0} {K : B → Type 0} (y : B) → K y → ((z : B) → K z → z ≡ y) → Codes K Any (λ bytes. Ok (y, bytes)) (λ z. [])
made y k alone = just y k alone refl tt

-- one of two readers
pub chosen : {A : Type 0} {K P : A → Type 0} {r q : List ℕ → Read A} {s : A → List ℕ} (b : Bool) → (b ≡ true → Codes K P r s) → (b ≡ false → Codes K P q s) → Codes K P (λ bytes. cond b (r bytes) (q bytes)) s
chosen true f g = f refl
chosen false f g = g refl

-- a part of the value, and then what it leaves open
pub chain : {A B : Type 0} {P : A → Type 0} {K : B → Type 0} {Q : A → B → Type 0} {r : List ℕ → Read A} {s : A → List ℕ} {f : A → List ℕ → Read B} {t : A → B → List ℕ} (part : B → A)
    → Codes Any P r s → ((x : A) → P x → Codes (λ y. K y × (part y ≡ x)) (Q x) (f x) (t x))
    → Codes K (λ y. P (part y) × Q (part y) y) (λ bytes. r bytes >>= λ x. f x.0 x.1) (λ y. s (part y) ++ t (part y) y)
chain {A} {B} {P} {K} {Q} {r} {s} {f} {t} part first later = record {
  again = λ y rest k g. ap (λ b. r b >>= λ x. f x.0 x.1) (append_assoc (s (part y)) (t (part y) y) rest)
      ∙ ap (λ (q : Read A). q >>= λ x. f x.0 x.1) (first.again (part y) (t (part y) y ++ rest) tt g.0)
      ∙ (later (part y) g.0).again y rest (k, refl) g.1;
  taken = λ bytes y fits e. bind_then _ _ y e (λ x e0 l0.
      let u = first.taken bytes x fits e0 in
      let v = (later x.0 u.good).taken x.1 y u.fits l0 in
      let same : x.0 ≡ part y.0 = sym v.among.1 in
      record {
        parts = u.parts ∙ ap (λ b. s x.0 ++ b) v.parts ∙ ap (λ z. s z ++ (t z y.0 ++ y.1)) same ∙ sym (append_assoc (s (part y.0)) (t (part y.0) y.0) y.1);
        fits = v.fits;
        among = v.among.0;
        good = subst (λ z. P z × Q z y.0) same (u.good, v.good);
      });
}

-- a part that is known without bytes, or refused
pub settled : {A B : Type 0} {K : B → Type 0} {Q : A → B → Type 0} {f : A → List ℕ → Read B} {t : A → B → List ℕ} (part : B → A) (found : Result A DecodeRefusal) (P : A → Type 0)
    → ((x : A) → P x → found ≡ Ok x) → ((x : A) → found ≡ Ok x → P x) → ((x : A) → P x → Codes (λ y. K y × (part y ≡ x)) (Q x) (f x) (t x))
    → Codes K (λ y. P (part y) × Q (part y) y) (λ bytes. found >>= λ x. f x bytes) (λ y. t (part y) y)
settled {A} {B} {K} {Q} {f} {t} part found P is of later = record {
  again = λ y rest k g. ap (λ (q : Result A DecodeRefusal). q >>= λ x. f x (t (part y) y ++ rest)) (is (part y) g.0) ∙ (later (part y) g.0).again y rest (k, refl) g.1;
  taken = λ bytes y fits e. bind_then _ _ y e (λ x e0 l0.
      let v = (later x (of x e0)).taken bytes y fits l0 in
      let same : x ≡ part y.0 = sym v.among.1 in
      record { parts = v.parts ∙ ap (λ z. t z y.0 ++ y.1) same; fits = v.fits; among = v.among.0; good = subst (λ z. P z × Q z y.0) same (of x e0, v.good) });
}

-- ---- values of one form, by what they are made of

abbrev pub put : {A B : Type 0} → (A → B) → A × List ℕ → Read B
put f x = Ok (f x.0, x.1)

pub wrapped : {A B : Type 0} {P : A → Type 0} {K Q : B → Type 0} {r : List ℕ → Read A} {s : A → List ℕ} {t : B → List ℕ} (f : A → B) → Codes Any P r s → ((x : A) → P x → K (f x)) → ((y : B) → K y → (x : A) × (y ≡ f x))
    → ((x : A) → s x ≡ t (f x)) → ((x : A) → K (f x) → Q (f x) → P x) → ((x : A) → P x → Q (f x)) → Codes K Q (λ bytes. r bytes >>= put f) t
wrapped {A} {B} {P} {K} {Q} {r} {s} {t} f c among of same from to = record {
  again = λ y rest k g. (
      let v = of y k in
      subst (λ z. (r (t z ++ rest) >>= put f) ≡ Ok (z, rest)) (sym v.1)
      (ap (λ b. r (b ++ rest) >>= put f) (sym (same v.0)) ∙ ap (λ (q : Read A). q >>= put f) (c.again v.0 rest tt (from v.0 (subst K v.1 k) (subst Q v.1 g))))
      );
  taken = λ bytes y fits e. bind_then _ _ y e (λ x e0 l0.
      let u = c.taken bytes x fits e0 in
      subst (λ (p : B × List ℕ). Took K Q t bytes p) (ok_is (f x.0, x.1) y l0) (record { parts = u.parts ∙ ap (λ b. b ++ x.1) (same x.0); fits = u.fits; among = among x.0 u.good; good = to x.0 u.good }));
}

then_put : {A B C : Type 0} (f : A × B → C) (x : A) (q : Read B) → (q >>= put (λ y. f (x, y))) ≡ ((q >>= put (λ y. (x, y))) >>= put f)
then_put f x (Ok y) = refl
then_put f x (Err e) = refl

both_put : {A B C : Type 0} (f : A × B → C) (r : Read A) (g : A → List ℕ → Read B) → (r >>= λ x. g x.0 x.1 >>= put (λ y. f (x.0, y))) ≡ ((r >>= λ x. g x.0 x.1 >>= put (λ y. (x.0, y))) >>= put f)
both_put f (Ok x) g = then_put f x.0 (g x.0 x.1)
both_put f (Err e) g = refl

-- of two values, which are read one behind the other
pub wrapped_two : {A B C : Type 0} {P : A → Type 0} {Q : A → B → Type 0} {K R : C → Type 0} {r : List ℕ → Read A} {s : A → List ℕ} {g : A → List ℕ → Read B} {t : A → B → List ℕ} {w : C → List ℕ} (f : A × B → C)
    → Codes Any P r s → ((x : A) → P x → Codes Any (Q x) (g x) (t x)) → ((p : A × B) → K (f p)) → ((z : C) → K z → (p : A × B) × (z ≡ f p))
    → ((p : A × B) → s p.0 ++ t p.0 p.1 ≡ w (f p)) → ((p : A × B) → R (f p) → P p.0 × Q p.0 p.1) → ((p : A × B) → P p.0 → Q p.0 p.1 → R (f p))
    → Codes K R (λ bytes. r bytes >>= λ x. g x.0 x.1 >>= put (λ y. f (x.0, y))) w
wrapped_two {A} {B} {C} {P} {Q} {K} {R} {r} {s} {g} {t} {w} f first second among of same from to =
    let pair : Codes Any (λ (p : A × B). P p.0 × Q p.0 p.1) (λ bytes. r bytes >>= λ x. g x.0 x.1 >>= put (λ y. (x.0, y))) (λ p. s p.0 ++ t p.0 p.1)
    = chain {Q = λ x p. Q x p.1} {t = λ x p. t x p.1} (λ p. p.0) first (λ x h. wrapped (λ y. (x, y)) (second x h) (λ y _. (tt, refl)) (λ p k. (p.1, λ i. (k.1 i, p.1))) (λ y. refl) (λ y _ q. q) (λ y q. q)) in
    let c : Codes K R (λ bytes. (r bytes >>= λ x. g x.0 x.1 >>= put (λ y. (x.0, y))) >>= put f) w = wrapped f pair (λ p _. among p) of same (λ p _ q. from p q) (λ p q. to p q.0 q.1) in
    record {
      again = λ z rest k q. both_put f (r (w z ++ rest)) g ∙ c.again z rest k q;
      taken = λ bytes z fits e. c.taken bytes z fits (sym (both_put f (r bytes) g) ∙ e);
    }

-- ---- values that are judged

judged_ok : {A : Type 0} (test : A → Bool) (read : Read A) (x : A × List ℕ) → judged test read ≡ Ok x → (read ≡ Ok x) × (test x.0 ≡ true)
judged_ok test (Ok y) x e =
    let g = test_ok (test y.0) Operand y x e in
    (ap Ok g.1, ap test (ap (λ p. p.0) (sym g.1)) ∙ g.0)
judged_ok test (Err d) x e = absurd cc

pub judged_codes : {A : Type 0} {K P : A → Type 0} {r : List ℕ → Read A} {s : A → List ℕ} → Codes K P r s → (test : A → Bool) → Codes K (λ x. P x × (test x ≡ true)) (λ bytes. judged test (r bytes)) s
judged_codes {A} {K} {P} {r} {s} c test = record {
  again = λ x rest k g. rw (c.again x rest k g.0, g.1) refl;
  taken = λ bytes x fits e. (
      let j = judged_ok test (r bytes) x e in
      let u = c.taken bytes x fits j.0 in
      record { parts = u.parts; fits = u.fits; among = u.among; good = (u.good, j.1) }
      );
}

-- by a test that nothing else passes
pub tested : {A : Type 0} {K P : A → Type 0} {r : List ℕ → Read A} {s : A → List ℕ} → Codes K P r s → (test : A → Bool) → ((x : A) → test x ≡ true → P x) → Codes K (λ x. test x ≡ true) (λ bytes. judged test (r bytes)) s
tested c test of = good_so (judged_codes c test) (λ x. refl) (λ x _ h. (of x h, h)) (λ x _ h. h.1)

-- ---- numbers

-- so many bytes
pub bytes_codes : (k : ℕ) → Codes (λ front. Any front × (length front ≡ k)) Any (bytes_at k) (λ front. front)
bytes_codes k = record {
  again = λ front rest len _. (
      let long : ltb (length (front ++ rest)) k ≡ false = le-ltb _ _ (omega (arith, length-append front rest, len.1)) in
      rw (long, take_at front rest k len.1, drop_at front rest k len.1) refl
      );
  taken = λ bytes x fits e. (
      let g = guard_ok (ltb (length bytes) k) Truncated (take k bytes, drop k bytes) x e in
      let long : k ≤ length bytes = ltb-false _ _ g.0 in
      let len : length (take k bytes) ≡ k = omega (arith, length-take k bytes) in
      subst (λ y. Took (λ front. Any front × (length front ≡ k)) Any (λ front. front) bytes y) g.1 (record { parts = sym (take-append-drop k bytes); fits = IsBytes-drop k bytes fits; among = (tt, len); good = tt })
      );
}

IsBytes-front : (front rest : List ℕ) → IsBytes (front ++ rest) → IsBytes front
IsBytes-front front rest h = subst IsBytes (take_at front rest (length front) refl) (IsBytes-take (length front) (front ++ rest) h)

record IsWide (w : Width) (limit : ℕ) : Type 0 where
  len : (n : ℕ) → length (to_le_bytes w n) ≡ byte_len w
  forth : (n : ℕ) → n < limit → from_le_bytes w (to_le_bytes w n) ≡ n
  back : (bytes : List ℕ) → length bytes ≡ byte_len w → IsBytes bytes → to_le_bytes w (from_le_bytes w bytes) ≡ bytes
  below : (bytes : List ℕ) → IsBytes bytes → from_le_bytes w bytes < limit

byte_back : (bytes : List ℕ) → length bytes ≡ 1 → IsBytes bytes → to_le_bytes w8 (from_le_bytes w8 bytes) ≡ bytes
byte_back (b ∷ []) l h =
    let same : b % 256 ≡ b = omega (arith, h 0) in
    rw same refl
byte_back bytes l h = absurd (omega arith)

number_codes : (w : Width) (limit : ℕ) → IsWide w limit → Codes Any (λ n. n < limit) (number_at w) (to_le_bytes w)
number_codes w limit wide = record {
  again = λ n rest _ h. rw ((bytes_codes (byte_len w)).again (to_le_bytes w n) rest (tt, wide.len n) tt, wide.forth n h) refl;
  taken = λ bytes x fits e. bind_then _ _ x e (λ b e0 l0.
      let p = (bytes_codes (byte_len w)).taken bytes b fits e0 in
      let front = IsBytes-front b.0 b.1 (subst IsBytes p.parts fits) in
      subst (λ (y : ℕ × List ℕ). Took Any (λ n. n < limit) (to_le_bytes w) bytes y) (ok_is (from_le_bytes w b.0, b.1) x l0)
      (record { parts = p.parts ∙ ap (λ t. t ++ b.1) (sym (wide.back b.0 p.among.1 front)); fits = p.fits; among = tt; good = wide.below b.0 front }));
}

pub byte_codes : Codes Any (λ n. n < 256) (number_at w8) byte
byte_codes = number_codes w8 256 (record { len = λ n. refl; forth = λ n h. omega arith; back = byte_back; below = λ bytes h. omega (arith, h 0) })

pub number_codes_16 : Codes Any (λ n. n < 65536) (number_at w16) number
number_codes_16 = number_codes w16 65536 (record { len = λ n. refl; forth = from_le_bytes-to_le_bytes_2; back = λ bytes l h. le_bytes_2 bytes _ l h refl; below = λ bytes h. omega (arith, h 0, h 1) })

pub long_codes : Codes Any (λ n. n < 2 ^ 64) (number_at w64) long
unfolding long
long_codes = number_codes w64 (2 ^ 64) (record { len = λ n. refl; forth = from_le_bytes-to_le_bytes_8; back = λ bytes l h. le_bytes_8 bytes _ l h refl; below = λ bytes h. omega (arith, h 0, h 1, h 2, h 3, h 4, h 5, h 6, h 7) })

pub fits : (n : ℤ) → is_i64 n ≡ true → SFits w64 n
fits n h = grind (arith, ints)

unsigned_fits : (n : ℤ) → is_i64 n ≡ true → cast_unsigned w64 n < 2 ^ 64
unsigned_fits (pos n) h = grind (arith, ints)
unsigned_fits (negsuc n) h = omega arith

fits_is_i64 : (z : ℤ) → SFits w64 z → is_i64 z ≡ true
fits_is_i64 (pos n) h = grind (arith, h.sfits)
fits_is_i64 (negsuc n) h = grind (arith, h.sfits)

pub signed_codes : Codes Any (λ n. is_i64 n ≡ true) signed_at signed
unfolding signed long
signed_codes = record {
  again = λ n rest _ h. rw (long_codes.again (cast_unsigned w64 n) rest tt (unsigned_fits n h)) (ap (λ (m : ℤ). Ok (m, rest)) (to_z-of_z w64 n (fits n h)));
  taken = λ bytes x fits e. bind_then _ _ x e (λ n e0 l0.
      let u = long_codes.taken bytes n fits e0 in
      subst (λ (y : ℤ × List ℕ). Took Any (λ n. is_i64 n ≡ true) signed bytes y) (ok_is (cast_signed w64 n.0, n.1) x l0)
      (record { parts = u.parts ∙ ap (λ k. to_le_bytes w64 k ++ n.1) (sym (of_z-to_z w64 n.0 u.good)); fits = u.fits; among = tt; good = fits_is_i64 (cast_signed w64 n.0) (sfits_to_z (record { fits = u.good })) }));
}

below : (n lo hi m : ℕ) → hi < m → is_between lo hi n ≡ true → n < m
below n lo hi m h e =
    let le : n ≤ hi = leb-true n hi (and_parts (leb lo n) (leb n hi) e).1 in
    omega arith

-- a number of one byte, of two and of eight that lies between two numbers
pub byte_between : (lo hi : ℕ) → hi < 256 → Codes Any (λ n. is_between lo hi n ≡ true) (λ bytes. judged (is_between lo hi) (number_at w8 bytes)) byte
byte_between lo hi small = tested byte_codes (is_between lo hi) (λ n h. below n lo hi 256 small h)

pub number_between : (lo hi : ℕ) → hi < 65536 → Codes Any (λ n. is_between lo hi n ≡ true) (λ bytes. judged (is_between lo hi) (number_at w16 bytes)) number
number_between lo hi small = tested number_codes_16 (is_between lo hi) (λ n h. below n lo hi 65536 small h)

pub long_between : (lo hi : ℕ) → hi < 2 ^ 64 → Codes Any (λ n. is_between lo hi n ≡ true) (λ bytes. judged (is_between lo hi) (number_at w64 bytes)) long
long_between lo hi small = tested long_codes (is_between lo hi) (λ n h. below n lo hi (2 ^ 64) small h)

-- ---- tags

-- each value has a number of its own
pub record IsTable {A : Type 0} (tag : A → ℕ) (by : ℕ → Option A) : Type 0 where
  pub small : (x : A) → tag x < 256
  pub again : (x : A) → by (tag x) ≡ Some x
  pub alone : (n : ℕ) (x : A) → by n ≡ Some x → n ≡ tag x

-- the value of a number
pub found : {A : Type 0} {tag : A → ℕ} {by : ℕ → Option A} → IsTable tag by → (d : DecodeRefusal) (n : ℕ) (x : A) → tag x ≡ n → ok_or (by n) d ≡ Ok x
found {A} {tag} {by} t d n x same = rw (← same, t.again x) refl

pub found_is : {A : Type 0} {tag : A → ℕ} {by : ℕ → Option A} → IsTable tag by → (d : DecodeRefusal) (n : ℕ) (x : A) → ok_or (by n) d ≡ Ok x → tag x ≡ n
found_is {A} {tag} {by} t d n x e = sym (t.alone n x (there_is (by n) d x e))

pub tagged_codes : {A : Type 0} {tag : A → ℕ} {by : ℕ → Option A} → IsTable tag by → Codes Any Any (tagged by) (λ x. byte (tag x))
tagged_codes {A} {tag} {by} t =
    good_so
    (chain tag byte_codes (λ n _. settled (λ x. x) (ok_or (by n) Operand) (λ x. tag x ≡ n) (found t Operand n) (found_is t Operand n) (λ x same. made x ((tt, same), refl) (λ z h. h.1))))
    (λ x. refl) (λ x _ _. (t.small x, (refl, tt))) (λ x _ _. tt)

truth_again : (n : ℕ) → is_between 0 1 n ≡ true → truth (n == 1) ≡ n
truth_again zero h = refl
truth_again (suc n) h =
    let one : 1 ≡ suc n = (let most : suc n ≤ 1 = at_most 0 1 (suc n) h in omega arith) in
    subst (λ k. truth (k == 1) ≡ k) one refl

truth_alone : (n : ℕ) (b : Bool) → truth b ≡ n → b ≡ (n == 1)
truth_alone n true e = ap (λ k. k == 1) e
truth_alone n false e = ap (λ k. k == 1) e

truth_is_bit : (b : Bool) → is_between 0 1 (truth b) ≡ true
truth_is_bit true = refl
truth_is_bit false = refl

pub truth_codes : Codes Any Any truth_at (λ b. byte (truth b))
unfolding truth_at
truth_codes = good_so (chain truth (byte_between 0 1 (lit< tt)) (λ n h. made (n == 1) (tt, truth_again n h) (λ b k. truth_alone n b k.1))) (λ b. refl) (λ b _ _. (truth_is_bit b, tt)) (λ b _ _. tt)

-- ---- one after the other

-- what holds of all, which are read one after the other, by what was kept of those before
pub record InTurn {S A : Type 0} (keep : S → A → S) (Good : S → A → Type 0) (All : S → List A → Type 0) : Type 0 where
  pub none : (s : S) → All s []
  pub more : (s : S) (x : A) (xs : List A) → Good s x → All (keep s x) xs → All s (x ∷ xs)
  pub parts : (s : S) (x : A) (xs : List A) → All s (x ∷ xs) → Good s x × All (keep s x) xs

module _ {S A : Type 0} {keep : S → A → S} {Good : S → A → Type 0} {All : S → List A → Type 0} {one : S → List ℕ → Read A} {spell : A → List ℕ} (turn : InTurn keep Good All) (each : (s : S) → Codes Any (Good s) (one s) spell) where
  so_many_again : (n : ℕ) (s : S) (xs : List A) (rest : List ℕ) → length xs ≡ n → All s xs → in_turn keep one s n (flat_map spell xs ++ rest) ≡ Ok (xs, rest)
  so_many_again zero s [] rest len good = refl
  so_many_again (suc n) s (x ∷ xs) rest len good =
      let g = turn.parts s x xs good in
      rw (append_assoc (spell x) (flat_map spell xs) rest, (each s).again x (flat_map spell xs ++ rest) tt g.0, so_many_again n (keep s x) xs rest (omega (arith, len)) g.1) refl
  so_many_again n s xs rest len good = absurd (omega (arith, len))

  so_many_taken : (n : ℕ) (s : S) (bytes : List ℕ) (x : List A × List ℕ) → IsBytes bytes → in_turn keep one s n bytes ≡ Ok x → Took (λ xs. Any xs × (length xs ≡ n)) (All s) (flat_map spell) bytes x
  so_many_taken zero s bytes x fits e =
      subst (λ (y : List A × List ℕ). Took (λ xs. Any xs × (length xs ≡ 0)) (All s) (flat_map spell) bytes y) (ok_is ([], bytes) x e) (record { parts = refl; fits = fits; among = (tt, refl); good = turn.none s })
  so_many_taken (suc n) s bytes x fits e =
      bind_then _ _ x e (λ a e0 l0.
      bind_then _ _ x l0 (λ b e1 l1.
      let t = (each s).taken bytes a fits e0 in
      let u = so_many_taken n (keep s a.0) a.1 b t.fits e1 in
      subst (λ (y : List A × List ℕ). Took (λ xs. Any xs × (length xs ≡ suc n)) (All s) (flat_map spell) bytes y) (ok_is (a.0 ∷ b.0, b.1) x l1)
      (record {
        parts = t.parts ∙ ap (λ r. spell a.0 ++ r) u.parts ∙ sym (append_assoc (spell a.0) (flat_map spell b.0) b.1);
        fits = u.fits;
        among = (tt, ap suc u.among.1);
        good = turn.more s a.0 b.0 t.good u.good;
      })))

  pub so_many : (s : S) (n : ℕ) → Codes (λ xs. Any xs × (length xs ≡ n)) (All s) (in_turn keep one s n) (flat_map spell)
  so_many s n = record { again = λ xs rest len good. so_many_again n s xs rest len.1 good; taken = so_many_taken n s }

  -- behind their number
  pub counted : {N : ℕ → Type 0} {read : List ℕ → Read ℕ} {spelled : ℕ → List ℕ} → Codes Any N read spelled → (s : S)
      → Codes Any (λ xs. N (length xs) × All s xs) (λ bytes. read bytes >>= λ n. in_turn keep one s n.0 n.1) (λ xs. spelled (length xs) ++ flat_map spell xs)
  counted count s = chain (λ xs. length xs) count (λ n _. so_many s n)
