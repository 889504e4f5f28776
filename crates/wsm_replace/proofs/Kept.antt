-- Bytes that were read and taken are none that is lost.
use Rattle.std.proofs.Common.{◌≡◌, ◌∙◌, ◌+◌, ℕ, List, [], ◌++◌, Option, None, Some, sym, ap, subst, drop, length, append_assoc, arith, length-append}
use Rattle.std.specs.Io.KnownBytes.{Consumes, Keeps, prepend_known}
use Rattle.wsm_replace.specs.declared.lines.WholeLines.{WholeLines}
use Rattle.wsm_replace.specs.Lines.{HasNone, behind, room, unread}

-- lists alone: what was read stands behind the line that was begun
pub taken_kept : (old new : Option (List ℕ)) (bytes begun lines' begun' : List ℕ) → Consumes old new bytes → lines' ++ begun' ≡ begun ++ bytes
    → Keeps (prepend_known [] (prepend_known begun old)) (prepend_known lines' (prepend_known begun' new))
taken_kept None new bytes begun lines' begun' read taken = tt
taken_kept (Some xs) None bytes begun lines' begun' read taken = absurd read
taken_kept (Some xs) (Some ys) bytes begun lines' begun' read taken =
    sym (append_assoc lines' begun' ys) ∙ ap (λ l. l ++ ys) taken ∙ append_assoc begun bytes ys ∙ ap (λ l. begun ++ l) (sym read)

pub kept : {I : Type 0} (remaining : I → Option (List ℕ)) (a b d : WholeLines I) (bytes : List ℕ) → HasNone a
    → (b.lines.items ≡ a.lines.items) × (b.given ≡ a.given) → b.begun.items ≡ a.begun.items → Consumes (remaining a.input) (remaining b.input) bytes
    → d.lines.items ++ d.begun.items ≡ b.lines.items ++ (b.begun.items ++ bytes) → (d.given ≡ b.given) × (d.input ≡ b.input)
    → Keeps (unread remaining a) (unread remaining d)
kept remaining a b d bytes none lines begun read taken same =
    let first : drop a.given a.lines.items ≡ [] = ap (λ n. drop n a.lines.items) none.given ∙ none.lines in
    let second : drop d.given d.lines.items ≡ d.lines.items = ap (λ n. drop n d.lines.items) (same.0 ∙ lines.1 ∙ none.given) in
    let joined : d.lines.items ++ d.begun.items ≡ a.begun.items ++ bytes =
    taken ∙ ap (λ ls. ls ++ (b.begun.items ++ bytes)) (lines.0 ∙ none.lines) ∙ ap (λ l. l ++ bytes) begun in
    let rest = taken_kept (remaining a.input) (remaining b.input) bytes a.begun.items d.lines.items d.begun.items read joined in
    subst (λ ls. Keeps (prepend_known ls (behind remaining a)) (unread remaining d)) (sym first)
    (subst (λ ls. Keeps (prepend_known [] (behind remaining a)) (prepend_known ls (behind remaining d))) (sym second)
    (subst (λ i. Keeps (prepend_known [] (behind remaining a)) (prepend_known d.lines.items (prepend_known d.begun.items (remaining i)))) (sym same.1) rest))

-- bytes that were read and taken are counted
pub room_kept : {I : Type 0} (a b d : WholeLines I) (bytes : List ℕ) → HasNone a
    → (b.lines.items ≡ a.lines.items) × (b.given ≡ a.given) → b.begun.items ≡ a.begun.items
    → d.lines.items ++ d.begun.items ≡ b.lines.items ++ (b.begun.items ++ bytes) → d.given ≡ b.given → d.left + length bytes ≡ a.left → room d ≡ room a
room_kept a b d bytes none lines begun taken given left =
    let first : length (drop a.given a.lines.items) ≡ 0 = ap length (ap (λ n. drop n a.lines.items) none.given ∙ none.lines) in
    let second : length (drop d.given d.lines.items) ≡ length d.lines.items = ap (λ n. length (drop n d.lines.items)) (given ∙ lines.1 ∙ none.given) in
    omega (
      arith,
      first,
      second,
      left,
      ap length taken,
      ap length lines.0,
      ap length none.lines,
      ap length begun,
      length-append d.lines.items d.begun.items,
      length-append b.lines.items (b.begun.items ++ bytes),
      length-append b.begun.items bytes,
    )
