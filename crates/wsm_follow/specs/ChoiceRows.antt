-- Folders, and where a log goes on in them, computed. Of the log `a` the first two lines were read, when it was the file 1.
use Rattle.std.specs.Prelude.{◌≡◌, ℕ, List, [], ◌∷◌, Option, Some, None, codes, map, refl}
use Rattle.wsm_sums.specs.Crc.{bit_step, byte_step, rest_after, sum_behind}
use Rattle.wsm_follow.specs.Choice.{Named, chosen_in, files_in}
use Rattle.wsm_follow.specs.Logs.{next_in}
use Rattle.wsm_follow.specs.Position.{Place}
use Rattle.wsm_follow.specs.declared.choice.Choice.{Choice}
use Rattle.wsm_follow.specs.declared.choice.Choice.TheVariants.{Copy, Lost, Own, Packed}
use Rattle.wsm_follow.specs.declared.choice.Loss.TheVariants.{Gone, Other, Shorter}
use Rattle.wsm_follow.specs.declared.file.FileId.{FileId}

abbrev file : ℕ → FileId
file inode = record { device = 8; inode = inode }

abbrev behind_two_lines : Place
behind_two_lines = record { file = file 1; offset = 4; head = 1776384097; tail = 1776384097; name = codes "a" }

abbrev at : List ℕ → ℕ → List ℕ → Named
at name inode bytes = record { name = name; file = file inode; bytes = bytes; changed = 0 }

abbrev goes_on : List Named → Choice
goes_on folder = chosen_in (codes "a") behind_two_lines folder

not_rotated : goes_on (at (codes "a") 1 (codes "1\n2\n3\n") ∷ []) ≡ Own
unfolding bit_step byte_step rest_after sum_behind
not_rotated = refl

renamed : goes_on (at (codes "a") 2 (codes "4\n") ∷ at (codes "a.1") 1 (codes "1\n2\n3\n") ∷ []) ≡ Own
unfolding bit_step byte_step rest_after sum_behind
renamed = refl

-- copied and cut: the oldest file is the copy
copied : goes_on (at (codes "a") 1 (codes "4\n") ∷ at (codes "a.1") 2 (codes "1\n2\n3\n") ∷ []) ≡ Copy 0
unfolding bit_step byte_step rest_after sum_behind
copied = refl

-- copied and cut, and the log has grown past the place again
grown_again : goes_on (at (codes "a") 1 (codes "4\n5\n6\n") ∷ at (codes "a.1") 2 (codes "1\n2\n3\n") ∷ []) ≡ Copy 0
unfolding bit_step byte_step rest_after sum_behind
grown_again = refl

-- packed meanwhile: the newest packed one is needed in any case
packed : goes_on (at (codes "a") 3 (codes "4\n") ∷ at (codes "a.1.gz") 2 [] ∷ at (codes "a.2.gz") 5 [] ∷ []) ≡ Packed 1
unfolding bit_step byte_step rest_after sum_behind
packed = refl

shortened : goes_on (at (codes "a") 1 (codes "1\n") ∷ []) ≡ Lost Shorter
unfolding bit_step byte_step rest_after sum_behind
shortened = refl

-- another log has got the file's number
another : goes_on (at (codes "a") 1 (codes "4\n5\n6\n") ∷ []) ≡ Lost Other
unfolding bit_step byte_step rest_after sum_behind
another = refl

gone : goes_on (at (codes "a") 2 (codes "4\n") ∷ []) ≡ Lost Gone
unfolding bit_step byte_step rest_after sum_behind
gone = refl

abbrev behind : ℕ → List Named → Option FileId
behind inode folder = next_in (file inode) (map (λ f. f.file) (files_in (codes "a") folder))

-- rotated twice while it was away
the_next : behind 1 (at (codes "a") 3 [] ∷ at (codes "a.2") 1 [] ∷ at (codes "a.1") 2 [] ∷ []) ≡ Some (file 2)
the_next = refl

no_next : behind 3 (at (codes "a") 3 [] ∷ at (codes "a.2") 1 [] ∷ at (codes "a.1") 2 [] ∷ []) ≡ None
no_next = refl
