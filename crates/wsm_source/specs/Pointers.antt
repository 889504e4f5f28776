-- JSON pointers (RFC 6901) that name members alone.
use Rattle.std.specs.Prelude.{ℕ, List, [], ◌∷◌, ◌++◌, Bool, true, false, ◌==◌, if◌then◌else◌, Option, Some, None, option_and_then}
use Rattle.std.specs.Str.{is_utf8}

-- a pointer as far as it was read: the names before, the bytes of the one that it is in, and whether a tilde was the last
pub record Pointed : Type 0 where
  pub names : List (List ℕ)
  pub name : List ℕ
  pub escaped : Bool

abbrev pub start : Pointed
start = record { names = []; name = []; escaped = false }

-- bytes that are a text
abbrev pub text_or_none : List ℕ → Option (List ℕ)
text_or_none bytes = if is_utf8 bytes then Some bytes else None

abbrev pub with_name : Pointed → Option (List ℕ) → Option Pointed
with_name p None = None
with_name p (Some name) = Some (record p { names = p.names ++ name ∷ []; name = [] })

abbrev pub end_name : Pointed → Option Pointed
end_name p = with_name p (text_or_none p.name)

abbrev pub unescaped : Pointed → ℕ → Option Pointed
unescaped p byte = Some (record p { name = p.name ++ byte ∷ []; escaped = false })

-- `~0` is a tilde, `~1` a slash, and no other byte stands behind a tilde
abbrev pub escape : Pointed → ℕ → Option Pointed
escape p byte = if byte == 48 then unescaped p 126 else (if byte == 49 then unescaped p 47 else None)

-- one more byte
abbrev pub step : Pointed → ℕ → Option Pointed
step p byte =
    if p.escaped then escape p byte
    else (if byte == 47 then end_name p
    else (if byte == 126 then Some (record p { escaped = true }) else Some (record p { name = p.name ++ byte ∷ [] })))

abbrev pub last_name : Pointed → Option (List ℕ) → Option (List (List ℕ))
last_name p None = None
last_name p (Some name) = Some (p.names ++ name ∷ [])

abbrev pub finish : Pointed → Option (List (List ℕ))
finish p = if p.escaped then None else last_name p (text_or_none p.name)

abbrev pub run_from : Pointed → List ℕ → Option (List (List ℕ))
run_from p [] = finish p
run_from p (byte ∷ bytes) = option_and_then (λ q. run_from q bytes) (step p byte)

-- the names of a pointer behind its first slash
abbrev pub pointer_of : List ℕ → Option (List (List ℕ))
pointer_of bytes = run_from start bytes

-- the names of members that lead to a value: those of a pointer, which begins with a slash, or one
abbrev pub path_of : List ℕ → Option (List (List ℕ))
path_of [] = Some ([] ∷ [])
path_of (byte ∷ bytes) = if byte == 47 then pointer_of bytes else Some ((byte ∷ bytes) ∷ [])
