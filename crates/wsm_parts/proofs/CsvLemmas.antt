-- Parts of a line, and answers that say the same.
use Rattle.std.proofs.Common.{◌≡◌, ◌∙◌, ℕ, ◌+◌, ◌-◌, ◌<◌, ◌≤◌, List, [], ◌∷◌, ◌++◌, take, drop, length, get_or, sym, ap, arith, add-one, length-drop, IfOk}
use Rattle.std.specs.Prelude.{Result, Ok, Err}
use Rattle.std.proofs.lemmas.List.{get_or-drop}
use Rattle.std.proofs.Math.Seq.{take-suc}
use Rattle.wsm_parts.specs.Spans.{part_of}

part_next : (line : List ℕ) (start k : ℕ) → start + k < length line → take (k + 1) (drop start line) ≡ take k (drop start line) ++ get_or line (start + k) 0 ∷ []
part_next line start k h =
    let inside : k < length (drop start line) = omega (arith, length-drop start line) in
    rw add-one (take-suc (drop start line) k 0 inside) ∙ ap (λ b. take k (drop start line) ++ b ∷ []) (get_or-drop start line k 0)

-- the part with the byte behind it
pub part_more : (line : List ℕ) (start i : ℕ) → start ≤ i → i < length line → part_of line start (i + 1) ≡ part_of line start i ++ get_or line i 0 ∷ []
part_more line start i begun inside =
    let k : ℕ = i - start in
    let there : i ≡ start + k = omega arith in
    let one : (i + 1) - start ≡ k + 1 = omega arith in
    ap (λ n. take n (drop start line)) one ∙ part_next line start k (omega arith) ∙ ap (λ n. take k (drop start line) ++ get_or line n 0 ∷ []) (sym there)

pub ok_as : {A B E : Type 0} (r : Result A E) (line : List ℕ) (said : B) (F : List ℕ → B) (G : List ℕ → A → B) → IfOk r (λ w. (text : List ℕ) → F text ≡ G text w) → said ≡ F line → IfOk r (λ w. said ≡ G line w)
ok_as (Ok w) line said F G h e = e ∙ h line
ok_as (Err why) line said F G h e = tt
