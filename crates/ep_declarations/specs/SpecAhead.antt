-- One word more of those that begin a declaration, behind words that may stand together; and one `struct` or `union`
-- with its members.
use Rattle.std.specs.Prelude.{◌≡◌, ℕ, Bool, true, false, ◌&&◌, ◌==◌, ◌<◌, List, [], ◌∷◌, length}
use Rattle.std.specs.Prelude.{map, Option, Some, None, IfSome}
use Rattle.std.specs.Option.{option_map}
use Rattle.std.specs.Borrow.{Bor}
use Rattle.ep_ast.specs.Token.{Tok, word, name, mark}
use Rattle.ep_ast.specs.declared.words.Word.{Word}
use Rattle.ep_ast.specs.Mark.{left_brace, word_number}
use Rattle.ep_ast.specs.TypeWords.{Bag, fits, is_tag_word}
use Rattle.ep_ast.specs.Declaration.{Spec, Member, spec_of, member_of}
use Rattle.ep_ast.specs.declared.declarations.MemberTree.{MemberTree}
use Rattle.ep_lexer.specs.declared.tokens.Token.{Token}
use Rattle.ep_ast.specs.DeclarationGrammar.{Context, has_storage, is_storage_word, spec_joined, begins_spec, OneSpec}
use Rattle.ep_ast.specs.Depth.{in_spec, in_member}
use Rattle.ep_lexer.specs.Tokens.{view}
use Rattle.ep_type_names.specs.Words.{bag}
use Rattle.ep_reading.specs.declared.reader.Part.{Part}
use Rattle.ep_reading.specs.declared.measured.Measured.{Measured}
use Rattle.ep_reading.specs.Measured.{Shows}
use Rattle.ep_declarations.specs.Answer.{is_body}
use Rattle.ep_declarations.specs.declared.aggregates.Opening.{Opening}
use Rattle.ep_declarations.specs.declared.words.OneMore.{OneMore}

-- ---- the next word

-- the next word may stand with those before it, or the words are over
pub data Ahead (is_type : List ℕ → Bool) (k : Context) (b : Bag) : List Tok → List Tok → Option Spec → Type 0 where
  over : {xs : List Tok} → begins_spec is_type k xs ≡ false → Ahead is_type k b xs xs None
  fitting : {xs ys : List Tok} {s : Spec} → OneSpec is_type k xs ys s → fits (spec_joined b s) ≡ true
      → Ahead is_type k b xs ys (Some s)

abbrev pub are_none : List Spec → Bool
are_none [] = true
are_none (s ∷ ss) = false

-- the word, and the words with it
abbrev pub ShowsAhead : Bag → Option OneMore → Option Spec → Type 0
ShowsAhead b None s = s ≡ None
ShowsAhead b (Some o) s =
    (t : Spec) × (s ≡ Some t) × Shows spec_of in_spec o.tree t × (o.is_body ≡ is_body t)
    × (bag o.bag ≡ spec_joined b t) × (fits (spec_joined b t) ≡ true)

-- fewer tokens than so many stand behind the word, where one was read
abbrev pub IsPastWord : ℕ → Part (Option OneMore) → Type 0
IsPastWord n p = IfSome p.value (λ o. length p.rest.now < n)

-- `static` or `inline`, where it may stand
abbrev pub begins_storage : Context → List Tok → Bool
begins_storage k (word l c ∷ ts) = has_storage k && is_storage_word c
begins_storage k _ = false

abbrev pub AtStorage : Context → List Tok → Option (ℕ × ℕ × List Tok) → Type 0
AtStorage k ts (Some r) = (has_storage k ≡ true) × (is_storage_word r.1 ≡ true) × (ts ≡ word r.0 r.1 ∷ r.2)
AtStorage k ts None = begins_storage k ts ≡ false

abbrev pub seen_storage : ℕ × Word × Bor (List Token) → ℕ × ℕ × List Tok
seen_storage r = (r.0, word_number r.1, map view r.2.now)

abbrev pub IsPastStorage : ℕ → ℕ × Word × Bor (List Token) → Type 0
IsPastStorage n r = length r.2.now < n

-- ---- members

-- a `struct` or `union` begins here, perhaps with a tag, and then the brace before its members
abbrev pub begins_body : List Tok → Bool
begins_body (word l c ∷ mark p d ∷ ts) = is_tag_word c && d == left_brace
begins_body (word l c ∷ name m text ∷ mark p d ∷ ts) = is_tag_word c && d == left_brace
begins_body _ = false

abbrev pub Opens : (line code : ℕ) → Option (List ℕ) → (inside : List Tok) → List Tok → Type 0
Opens l c None xs ts = (p d : ℕ) × (d ≡ left_brace) × (is_tag_word c ≡ true) × (ts ≡ word l c ∷ mark p d ∷ xs)
Opens l c (Some text) xs ts =
    (m p d : ℕ) × (d ≡ left_brace) × (is_tag_word c ≡ true) × (ts ≡ word l c ∷ name m text ∷ mark p d ∷ xs)

abbrev pub tag_text : Option (Bor (List ℕ)) → Option (List ℕ)
tag_text t = option_map (λ b. b.now) t

abbrev pub AtBody : List Tok → Option Opening → Type 0
AtBody ts (Some o) = Opens o.line (word_number o.word) (tag_text o.tag) (map view o.inside.now) ts
AtBody ts None = begins_body ts ≡ false

abbrev pub IsOpenPast : ℕ → Opening → Type 0
IsOpenPast n o = length o.inside.now < n

abbrev pub ShowsMember : Measured MemberTree → Member → Type 0
ShowsMember k m = Shows member_of in_member k m
