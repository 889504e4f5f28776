-- Lines of access logs with their cells, computed.
use Rattle.std.specs.Prelude.{◌≡◌, [], ◌∷◌, Some, None, codes, refl}
use Rattle.wsm_parts.specs.Access.{access_of}

good : access_of (codes "1.2.3.4 - ann [10/Oct/2000:13:55:36 -0700] \"GET /a?b=c HTTP/1.0\" 200 2326 \"-\" \"Mozilla/5.0 (X11)\"")
    ≡ Some (codes "1.2.3.4" ∷ [] ∷ codes "ann" ∷ codes "10/Oct/2000:13:55:36 -0700" ∷ codes "GET /a?b=c HTTP/1.0" ∷ codes "200" ∷ codes "2326" ∷ [] ∷ codes "Mozilla/5.0 (X11)"
    ∷ codes "GET" ∷ codes "/a?b=c" ∷ codes "HTTP/1.0" ∷ [])
good = refl

-- a quote behind a backslash ends nothing, and stays as it is written
an_escaped_quote : access_of (codes "h i u [t] \"GET /\\\"b HTTP/1.0\" 200 1 \"r\" \"a\\\\\"")
    ≡ Some (codes "h" ∷ codes "i" ∷ codes "u" ∷ codes "t" ∷ codes "GET /\\\"b HTTP/1.0" ∷ codes "200" ∷ codes "1" ∷ codes "r" ∷ codes "a\\\\"
    ∷ codes "GET" ∷ codes "/\\\"b" ∷ codes "HTTP/1.0" ∷ [])
an_escaped_quote = refl

-- a request that hasn't three words has none of them
a_request_of_one_word : access_of (codes "h - - [t] \"-\" 400 0 \"-\" \"-\"") ≡ Some (codes "h" ∷ [] ∷ [] ∷ codes "t" ∷ [] ∷ codes "400" ∷ codes "0" ∷ [] ∷ [] ∷ [] ∷ [] ∷ [] ∷ [])
a_request_of_one_word = refl

a_request_of_four_words : access_of (codes "h - - [t] \"GET /a b HTTP/1.0\" 400 0 \"-\" \"-\"")
    ≡ Some (codes "h" ∷ [] ∷ [] ∷ codes "t" ∷ codes "GET /a b HTTP/1.0" ∷ codes "400" ∷ codes "0" ∷ [] ∷ [] ∷ [] ∷ [] ∷ [] ∷ [])
a_request_of_four_words = refl

cut_off : access_of (codes "h - - [t] \"GET / HTTP/1.0\" 200 23") ≡ None
cut_off = refl

something_behind : access_of (codes "h i u [t] \"r\" 200 1 \"a\" \"b\" 0.2") ≡ None
something_behind = refl

two_blanks : access_of (codes "h i u  [t] \"r\" 200 1 \"a\" \"b\"") ≡ None
two_blanks = refl

the_common_form : access_of (codes "h i u [t] \"r\" 200 1") ≡ None
the_common_form = refl
