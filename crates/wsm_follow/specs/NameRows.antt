-- Names, and the order of files, computed.
use Rattle.std.specs.Prelude.{◌≡◌, ℕ, List, [], ◌∷◌, Some, None, true, codes, drop, map, option_map, refl}
use Rattle.wsm_follow.specs.Names.{Listing, ending_of, first_readable, in_order, listing_with}

the_log : ending_of (codes "a.log") (codes "a.log") ≡ Some []
the_log = refl

a_number : ending_of (codes "a.log") (codes "a.log.1") ≡ Some (codes ".1")
a_number = refl

a_packed_number : ending_of (codes "a.log") (codes "a.log.12.gz") ≡ Some (codes ".12.gz")
a_packed_number = refl

a_packed_date : ending_of (codes "a.log") (codes "a.log-2026-11-28.zst") ≡ Some (codes "-2026-11-28.zst")
a_packed_date = refl

another_log : ending_of (codes "a.log") (codes "a.log.old") ≡ None
another_log = refl

packed_and_nothing_else : ending_of (codes "a.log") (codes "a.log.gz") ≡ None
packed_and_nothing_else = refl

a_longer_name : ending_of (codes "a.log") (codes "a.logs") ≡ None
a_longer_name = refl

another_name : ending_of (codes "a.log") (codes "b.log.1") ≡ None
another_name = refl

no_digit : ending_of (codes "a.log") (codes "a.log.") ≡ None
no_digit = refl

-- a file of the log `a`
abbrev at : List ℕ → ℕ → Listing
at name changed = listing_with name (record { device = 8; inode = 1 }) 0 changed (drop 1 name)

its_number : (at (codes "a.12.xz") 0).number ≡ Some 12
its_number = refl

is_packed : (at (codes "a.12.xz") 0).is_packed ≡ true
is_packed = refl

a_date : (at (codes "a-20261128") 0).number ≡ None
a_date = refl

abbrev names : List Listing → List (List ℕ)
names files = map (λ f. f.name) files

-- by their numbers, whatever their times say
by_numbers : names (in_order (at (codes "a") 3 ∷ at (codes "a.1") 9 ∷ at (codes "a.10.gz") 5 ∷ at (codes "a.2") 4 ∷ [])) ≡ codes "a.10.gz" ∷ codes "a.2" ∷ codes "a.1" ∷ codes "a" ∷ []
by_numbers = refl

-- dates by the times of change, and by their names where those are equal
by_times : names (in_order (at (codes "a") 3 ∷ at (codes "a-20261128") 7 ∷ at (codes "a-20261127") 7 ∷ at (codes "a-20261129") 6 ∷ [])) ≡ codes "a-20261129" ∷ codes "a-20261127" ∷ codes "a-20261128" ∷ codes "a" ∷ []
by_times = refl

-- numbers and dates beside one another by the times
mixed : names (in_order (at (codes "a.1") 8 ∷ at (codes "a.2") 9 ∷ at (codes "a-20261128") 7 ∷ [])) ≡ codes "a-20261128" ∷ codes "a.1" ∷ codes "a.2" ∷ []
mixed = refl

-- a log is read from its oldest file on, or from behind its last packed one
the_oldest : option_map (λ f. f.name) (first_readable (at (codes "a.2") 4 ∷ at (codes "a.1") 9 ∷ at (codes "a") 3 ∷ [])) ≡ Some (codes "a.2")
the_oldest = refl

behind_packed : option_map (λ f. f.name) (first_readable (at (codes "a.3") 2 ∷ at (codes "a.2.gz") 4 ∷ at (codes "a.1") 9 ∷ at (codes "a") 3 ∷ [])) ≡ Some (codes "a.1")
behind_packed = refl
