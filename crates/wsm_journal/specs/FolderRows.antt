-- What power cuts may leave, computed.
use Rattle.std.specs.Prelude.{◌≡◌, [], ◌∷◌, ◌++◌, true, false, codes, refl}
use Rattle.wsm_journal.specs.Folder.{Folder, Append, WriteNext, SyncNext, Rename, after_calls, append_calls, replace_calls, may_leave, settled}

abbrev appended : Folder
appended = after_calls (settled (codes "ab")) (Append (codes "cd") ∷ [])

a_part_of_what_was_written : may_leave appended (codes "abc") ≡ true
a_part_of_what_was_written = refl

zeros_in_its_place : may_leave appended (codes "ab" ++ 0 ∷ 0 ∷ []) ≡ true
zeros_in_its_place = refl

not_what_was_synced : may_leave appended (codes "a") ≡ false
not_what_was_synced = refl

no_more_than_was_written : may_leave appended (codes "abcde") ≡ false
no_more_than_was_written = refl

synced_it_stays : may_leave (after_calls (settled (codes "ab")) (append_calls (codes "cd"))) (codes "abc") ≡ false
synced_it_stays = refl

-- a file that has the name before it was synced may be left empty
renamed_unsynced : may_leave (after_calls (settled (codes "ab")) (WriteNext (codes "c") ∷ Rename ∷ [])) [] ≡ true
renamed_unsynced = refl

-- until the folder is synced the name may be either's
renamed_old : may_leave (after_calls (settled (codes "ab")) (WriteNext (codes "c") ∷ Rename ∷ [])) (codes "ab") ≡ true
renamed_old = refl

replaced_new : may_leave (after_calls (settled (codes "ab")) (replace_calls (codes "c"))) (codes "c") ≡ true
replaced_new = refl

replaced_old : may_leave (after_calls (settled (codes "ab")) (replace_calls (codes "c"))) (codes "ab") ≡ false
replaced_old = refl

-- of three that had the name one after the other, any
renamed_twice : may_leave (after_calls (settled (codes "a")) (WriteNext (codes "b") ∷ SyncNext ∷ Rename ∷ WriteNext (codes "c") ∷ SyncNext ∷ Rename ∷ [])) (codes "b") ≡ true
renamed_twice = refl
