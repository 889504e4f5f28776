-- The settings of version 1, by what spells them.
use Rattle.std.proofs.Common.{lit<, leb, ltb, ◌≡◌, ℕ, ◌+◌, ◌-◌, ◌<◌, ◌≤◌, Bool, true, false, cond, List, [], ◌∷◌, ◌++◌, length, refl, sym, ap, ◌∙◌, append_assoc, append-nil, arith}
use Rattle.std.proofs.lemmas.Bool.{ltb-true, ltb-false, lt-ltb, le-ltb, le-leb, and_parts, and_from}
use Rattle.wsm_record.specs.declared.Mode.{Mode}
use Rattle.wsm_record.specs.declared.Form.{Form}
use Rattle.wsm_record.specs.Modes.{may_write}
use Rattle.wsm_record.specs.Name.{is_between}
use Rattle.wsm_record.specs.Schema.{are_names_after, are_sources, is_source_count}
use Rattle.wsm_windows.specs.declared.Shape.{Shape}
use Rattle.wsm_program.specs.Program.{Name, is_shape, is_timely}
use Rattle.wsm_program.proofs.Within.{at_most}
use Rattle.wsm_bytecode.specs.Tags.{form_tag, shape_tag, last_shape_tag}
use Rattle.wsm_bytecode.specs.Parts.{Settings, byte, sources, measures}
use Rattle.wsm_bytecode.specs.Steps.{windows_by, form_of}
use Rattle.wsm_bytecode.specs.Version1.{windows, window_tag, output, settings, windows_at, form_part, sources_by, output_at, settings_at}
use Rattle.wsm_bytecode.proofs.Coded.{Any, Codes, in_words, good_so, all_good, chosen, just, made, chain, settled, wrapped, byte_codes, byte_between}
use Rattle.wsm_bytecode.proofs.CodedParts.{sources_codes, windows_codes, mode_codes, triggers_codes, form_is_small, IsForm, form_found, form_is}
use Rattle.wsm_bytecode.proofs.Lateness.{shape_tag_most, tag_within, timely_within}
use Rattle.wsm_bytecode.proofs.Settings.{SettingsParts, many_sources, count_of_many}

-- ---- windows

abbrev tag_of : Shape × Bool → ℕ
tag_of w = window_tag w.1 + shape_tag w.0

low_tag : (b : Bool) (n tag : ℕ) → window_tag b + n ≡ tag → tag < 3 → (b ≡ false) × (n ≡ tag)
low_tag false n tag e h = (refl, omega (arith, e))
low_tag true n tag e h = absurd (omega (arith, e, h))

high_tag : (b : Bool) (n tag : ℕ) → window_tag b + n ≡ tag → 3 ≤ tag → n ≤ 2 → (b ≡ true) × (n ≡ tag - 3)
high_tag false n tag e h k = absurd (omega (arith, e, h, k))
high_tag true n tag e h k = (refl, omega (arith, e))

of_tag : (tag : ℕ) → tag ≤ 4 → Codes (λ w. Any w × (tag_of w ≡ tag)) (λ w. is_shape w.0 ≡ true) (λ bytes. cond (ltb tag 3) (windows_by false tag bytes) (windows_by true (tag - 3) bytes)) (λ w. measures w.0)
of_tag tag most =
    chosen (ltb tag 3)
    (λ low.
    let less : tag < 3 = ltb-true tag 3 low in
    in_words (windows_codes false tag (omega arith)) (λ w _ _. refl)
    (λ w k h. (let t = low_tag w.1 (shape_tag w.0) tag k.1 less in (((tt, t.0), t.1), h)))
    (λ w k h. ((tt, ap (λ b. window_tag b + shape_tag w.0) k.0.1 ∙ omega (arith, k.1)), h)))
    (λ high.
    let more : 3 ≤ tag = ltb-false tag 3 high in
    in_words (windows_codes true (tag - 3) (omega arith)) (λ w _ _. refl)
    (λ w k h. (let t = high_tag w.1 (shape_tag w.0) tag k.1 more (shape_tag_most w.0) in (((tt, t.0), t.1), h)))
    (λ w k h. ((tt, ap (λ b. window_tag b + shape_tag w.0) k.0.1 ∙ omega (arith, k.1)), h)))

tag_most : (b : Bool) (n : ℕ) → n ≤ last_shape_tag b → window_tag b + n ≤ 4
tag_most false n h = omega arith
tag_most true n h = omega arith

tag_last : (b : Bool) (n : ℕ) → window_tag b + n ≤ 4 → n ≤ 2 → n ≤ last_shape_tag b
tag_last false n h k = k
tag_last true n h k = omega arith

shape_codes : Codes Any (λ w. (is_timely w.1 w.0 ≡ true) × (is_shape w.0 ≡ true)) windows_at (λ w. windows w.1 w.0)
unfolding windows_at
shape_codes =
    good_so (chain tag_of (byte_between 0 4 (lit< tt)) (λ tag h. of_tag tag (at_most 0 4 tag h))) (λ w. refl)
    (λ w _ h. (and_from (leb 0 (tag_of w)) (leb (tag_of w) 4) (le-leb _ _ (omega arith)) (le-leb _ _ (tag_most w.1 (shape_tag w.0) (tag_within w.0 w.1 h.0))), h.1))
    (λ w _ h. (timely_within w.1 w.0 (tag_last w.1 (shape_tag w.0) (at_most 0 4 (tag_of w) h.0) (shape_tag_most w.0)), h.1))

-- ---- forms and sources

abbrev output_tag : Form → List Name → ℕ
output_tag f [] = form_tag f
output_tag f (n ∷ ns) = 4 + form_tag f

abbrev behind_tag : List Name → List ℕ
behind_tag [] = []
behind_tag (n ∷ ns) = sources (n ∷ ns)

low_part : (n : ℕ) → n < 4 → form_part n ≡ n
low_part n h = rw (lt-ltb n 4 h) refl

high_part : (n : ℕ) → 4 ≤ n → form_part n ≡ n - 4
high_part n h = rw (le-ltb n 4 h) refl

-- without sources
none_low : (f : Form) (tag : ℕ) (ns : List Name) → tag < 4 → output_tag f ns ≡ tag → ns ≡ []
none_low f tag [] h e = refl
none_low f tag (n ∷ ns) h e = absurd (omega (arith, e, h))

some_high : (f : Form) (tag : ℕ) (ns : List Name) → form_tag f ≡ tag - 4 → 4 ≤ tag → output_tag f ns ≡ tag → are_sources ns ≡ true → (is_between 2 16 (length ns) ≡ true) × (are_names_after [] ns ≡ true)
some_high f tag [] e h t good = absurd (omega (arith, e, h, t))
some_high f tag (n ∷ ns) e h t good =
    let p = and_parts (is_source_count (length (n ∷ ns))) (are_names_after [] (n ∷ ns)) good in
    (many_sources (length ns) p.0, p.1)

high_some : (f : Form) (tag : ℕ) (ns : List Name) → form_tag f ≡ tag - 4 → 4 ≤ tag → is_between 2 16 (length ns) ≡ true → (output_tag f ns ≡ tag) × (sources ns ≡ behind_tag ns)
high_some f tag [] e h many = absurd cc
high_some f tag (n ∷ ns) e h many = (omega (arith, e, h), refl)

behind_high : (f : Form) (tag : ℕ) (ns : List Name) → form_tag f ≡ tag - 4 → 4 ≤ tag → output_tag f ns ≡ tag → sources ns ≡ behind_tag ns
behind_high f tag [] e h t = absurd (omega (arith, e, h, t))
behind_high f tag (n ∷ ns) e h t = refl

few : (n : ℕ) → is_between 2 16 n ≡ true → n < 256
few n h =
    let most : n ≤ 16 = at_most 2 16 n h in
    omega arith

sources_by_codes : (f : Form) (tag : ℕ) → form_tag f ≡ form_part tag → Codes Any (λ ns. (output_tag f ns ≡ tag) × (are_sources ns ≡ true)) (sources_by tag) behind_tag
sources_by_codes f tag e =
    chosen (ltb tag 4)
    (λ low.
    let less : tag < 4 = ltb-true tag 4 low in
    all_good (just [] (e ∙ low_part tag less) (λ ns t. none_low f tag ns less t) refl refl))
    (λ high.
    let more : 4 ≤ tag = ltb-false tag 4 high in
    let same : form_tag f ≡ tag - 4 = e ∙ high_part tag more in
    in_words (sources_codes (is_between 2 16) few) (λ ns _ h. behind_high f tag ns same more h.0) (λ ns _ h. (tt, some_high f tag ns same more h.0 h.1))
    (λ ns _ h. (tt, ((high_some f tag ns same more h.0).0, and_from _ _ (count_of_many (length ns) h.0) h.1))))

part_again : (f : Form) (ns : List Name) → form_tag f ≡ form_part (output_tag f ns)
part_again f [] = sym (low_part (form_tag f) (form_is_small f))
part_again f (n ∷ ns) = omega (arith, high_part (4 + form_tag f) (omega arith))

tag_is_byte : (f : Form) (ns : List Name) → output_tag f ns < 256
tag_is_byte f [] = omega (arith, form_is_small f)
tag_is_byte f (n ∷ ns) = omega (arith, form_is_small f)

output_is : (f : Form) (ns : List Name) → byte (output_tag f ns) ++ behind_tag ns ≡ output ns f
output_is f [] = refl
output_is f (n ∷ ns) = refl

output_codes : (m : Mode) → Codes Any (λ o. (may_write m o.0 ≡ true) × (are_sources o.1 ≡ true)) (output_at m) (λ o. output o.1 o.0)
unfolding output_at
output_codes m =
    good_so
    (chain (λ o. output_tag o.0 o.1) byte_codes (λ tag _. settled {Q = λ f o. are_sources o.1 ≡ true} {t = λ f o. behind_tag o.1} (λ o. o.0) (form_of m (form_part tag)) (IsForm m (form_part tag)) (form_found m (form_part tag)) (form_is m (form_part tag)) (λ f h.
    wrapped (λ ns. (f, ns)) (sources_by_codes f tag h.0) (λ ns g. ((tt, g.0), refl)) (λ o k. (o.1, λ i. (k.1 i, o.1))) (λ ns. refl) (λ ns k g. (k.0.1, g)) (λ ns g. g.1))))
    (λ o. output_is o.0 o.1)
    (λ o _ h. (tag_is_byte o.0 o.1, ((part_again o.0 o.1, h.0), h.1)))
    (λ o _ h. (h.1.0.1, h.1.1))

pub settings_codes : Codes Any SettingsParts settings_at settings
unfolding settings_at
settings_codes =
    let parts = chain (λ (s : Settings). (s.shape, s.from_window)) shape_codes (λ w _. chain (λ s. s.mode) mode_codes (λ m _. chain (λ s. (s.early, s.late)) triggers_codes (λ g _. chain (λ s. (s.form, s.sources)) (output_codes m) (λ o _.
    made (record { shape = w.0; from_window = w.1; mode = m; early = g.0; late = g.1; form = o.0; sources = o.1 }) ((((tt, refl), refl), refl), refl)
    (λ s k i. record { shape = (k.0.0.0.1 i).0; from_window = (k.0.0.0.1 i).1; mode = k.0.0.1 i; early = (k.0.1 i).0; late = (k.0.1 i).1; form = (k.1 i).0; sources = (k.1 i).1 }))))) in
    good_so parts (λ s. simp (append_assoc, append-nil) refl)
    (λ s _ p. ((p.timely, p.shape), (tt, ((p.early, p.late), ((p.form, p.sources), tt)))))
    (λ s _ h. record { timely = h.0.0; sources = h.1.1.1.0.1; shape = h.0.1; early = h.1.1.0.0; late = h.1.1.0.1; form = h.1.1.1.0.0 })
