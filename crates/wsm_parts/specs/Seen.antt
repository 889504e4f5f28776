-- What the types of the code that borrow from a line stand for.
use Rattle.std.specs.Prelude.{ℕ, List, map}
use Rattle.wsm_parts.specs.Access.{RequestWords, with_words}
use Rattle.wsm_parts.specs.declared.access.Access.{Access}
use Rattle.wsm_parts.specs.declared.access.RequestWords.{RequestWords as Held}

abbrev pub words_seen : Held → RequestWords
words_seen w = with_words w.method.now w.path.now w.protocol.now

abbrev pub access_seen : Access → List (List ℕ)
access_seen a = map (λ s. s.now) a.cells
