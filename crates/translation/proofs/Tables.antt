-- The tables of a program have what its code names.
use mathlib.Core.Path.{◌≡◌, refl, sym, subst, ◌∙◌}
use mathlib.Core.Bool.{Bool, true, false, true≢false, cond, ◌&&◌, ◌||◌}
use mathlib.Core.Logic.{◌⊎◌, inl, inr, ⊎_elim}
use mathlib.Core.List.{List, [], ◌∷◌, ◌++◌}
use Prim.Native.Nat.{ℕ, suc}
use lib.Dec.{leb}
use lib.ListN.{length}
use Rattle.lists.specs.Elements.{nth, all}
use Rattle.lists.proofs.Tests.{and-true}
use Rattle.semantics.specs.Variables.{Variable, specials, special_count, specials_of, special_of, may_assign, assignable}
use Rattle.semantics.specs.Moves.{Section, begin, main, end}
use Rattle.program_tokens.specs.Kinds.{Kind, user_name, variable, fixed_variable, rank, same, among}
use Rattle.program_tokens.specs.Words.{Word, words, kind_in, word_kind, same_bytes}
use Rattle.program_tree.specs.Tree.{Program}
use Rattle.program_code.specs.Emitted.{Operand, Emitted}
use Rattle.program_code.specs.Sections.{section_code}
use Rattle.program_numbering.specs.Names.{has, number_of, names_in_program, users_among, users_of}
use Rattle.program_numbering.specs.Numbering.{special_names, same_constant, constant_in, ere_in, operands_by, all_code, tables_of}
use Rattle.program_numbering.proofs.Numbers.{Each, each_left, each_right, each-join, each_map, choose, new-has, has_left, has_right, bytes_same, constant-same, same-equal, and_right}
use Rattle.program_reader.proofs.Tokens.{IsName}

-- ---- special variables

special : Kind → Bool
special k = same k variable || (same k fixed_variable || false)

abbrev imp : Bool → Bool → Bool
imp a b = cond a b true

-- a word of a special variable's kind is one of its names
listed_special : Word → Bool
listed_special w = imp (special w.kind) (has same_bytes special_names w.spelling)

words-listed : all listed_special words ≡ true
unfolding listed_special special rank has same_bytes
words-listed = refl

imp_use : (a b : Bool) → imp a b ≡ true → a ≡ true → b ≡ true
imp_use true b h e = h
imp_use false b h e = absurd (true≢false (sym e))

special-named : (edition : ℕ) (w : List ℕ) (l : List Word) → all listed_special l ≡ true → special (kind_in edition user_name w l) ≡ true
    → has same_bytes special_names w ≡ true
unfolding kind_in listed_special special rank
special-named edition w [] each h = absurd (true≢false (sym h))
special-named edition w (x ∷ l) each h =
    let both = and-true (listed_special x) (all listed_special l) each in
    go (leb x.since edition && same_bytes w x.spelling) refl both.0 (special-named edition w l both.1) h
  where
    go : (b : Bool) → (leb x.since edition && same_bytes w x.spelling) ≡ b → listed_special x ≡ true
        → (special (kind_in edition user_name w l) ≡ true → has same_bytes special_names w ≡ true)
        → special (cond b x.kind (kind_in edition user_name w l)) ≡ true → has same_bytes special_names w ≡ true
    go true e one ih k =
        subst (λ (v : List ℕ). has same_bytes special_names v ≡ true) (sym (same-equal w x.spelling (and_right (leb x.since edition) (same_bytes w x.spelling) e)))
        (imp_use (special x.kind) (has same_bytes special_names x.spelling) one k)
    go false e one ih k = ih k

-- ---- users

users-lift : (edition : ℕ) (P : List ℕ → Type 0) (l : List (List ℕ)) → Each P (users_among edition l) → Each (λ v. same (word_kind edition v) user_name ≡ true → P v) l
unfolding users_among
users-lift edition P [] h = tt
users-lift edition P (v ∷ l) h = go (same (word_kind edition v) user_name) refl (users-lift edition P l) h
  where
    go : (b : Bool) → same (word_kind edition v) user_name ≡ b → (Each P (users_among edition l) → Each (λ v. same (word_kind edition v) user_name ≡ true → P v) l)
        → Each P (cond b (v ∷ users_among edition l) (users_among edition l)) → (same (word_kind edition v) user_name ≡ true → P v) × (Each (λ v. same (word_kind edition v) user_name ≡ true → P v) l)
    go true e ih k = ((λ q. k.0), ih k.1)
    go false e ih k = ((λ q. absurd (true≢false (sym q ∙ e))), ih k)

module _ (edition : ℕ) (s : List ℕ) (p : Program) where
  abbrev pub variables : List (List ℕ)
  variables = special_names ++ users_of edition p

  -- a name that the table has
  abbrev pub Listed : List ℕ → Type 0
  Listed v = IsName edition s v → has same_bytes variables v ≡ true

  listed : (v : List ℕ) → (same (word_kind edition v) user_name ≡ true → has same_bytes (users_of edition p) v ≡ true) → Listed v
  unfolding among special
  listed v u n = go (same (word_kind edition v) user_name) refl n
    where
      go : (b : Bool) → same (word_kind edition v) user_name ≡ b → (b || special (word_kind edition v)) ≡ true → has same_bytes variables v ≡ true
      go true e k = has_right same_bytes special_names (users_of edition p) v (u e)
      go false e k = has_left same_bytes special_names (users_of edition p) v (special-named edition v words words-listed k)

  pub names-listed : Each Listed (names_in_program p)
  unfolding users_of
  names-listed =
      each_map (λ v. same (word_kind edition v) user_name ≡ true → has same_bytes (users_of edition p) v ≡ true) Listed (names_in_program p) listed
      (users-lift edition (λ v. has same_bytes (users_of edition p) v ≡ true) (names_in_program p) (new-has same_bytes bytes_same (users_among edition (names_in_program p)) []))

-- ---- what the instructions of a section name

-- what each instruction names, from what all name
by-instruction : {A : Type 0} (P : A → Type 0) (f : Operand → List A) (l : List Emitted) → Each P (operands_by f l) → Each (λ i. Each P (f i.operand)) l
unfolding operands_by
by-instruction P f [] h = tt
by-instruction P f (i ∷ l) h = (each_left P (f i.operand) (operands_by f l) h, by-instruction P f l (each_right P (f i.operand) (operands_by f l) h))

named-join : {A : Type 0} (f : Operand → List A) (P : A → Type 0) (l m : List Emitted) → Each P (operands_by f (l ++ m)) → (Each P (operands_by f l)) × (Each P (operands_by f m))
unfolding operands_by
named-join f P [] m h = (tt, h)
named-join f P (i ∷ l) m h =
    let r = named-join f P l m (each_right P (f i.operand) (operands_by f (l ++ m)) h) in
    (each-join P (f i.operand) (operands_by f l) (each_left P (f i.operand) (operands_by f (l ++ m)) h) r.0, r.1)

pub join-named : {A : Type 0} (f : Operand → List A) (P : A → Type 0) (l m : List Emitted) → Each P (operands_by f l) → Each P (operands_by f m) → Each P (operands_by f (l ++ m))
unfolding operands_by
join-named f P [] m g h = h
join-named f P (i ∷ l) m g h =
    each-join P (f i.operand) (operands_by f (l ++ m)) (each_left P (f i.operand) (operands_by f l) g) (join-named f P l m (each_right P (f i.operand) (operands_by f l) g) h)

section-named : {A : Type 0} (f : Operand → List A) (P : A → Type 0) (p : Program) → Each P (operands_by f (all_code p)) → (z : Section) → Each P (operands_by f (section_code z p))
section-named f P p h z =
    let r = named-join f P (section_code begin p) (section_code main p ++ section_code end p) h in
    let q = named-join f P (section_code main p) (section_code end p) r.1 in
    go z r.0 q.0 q.1
  where
    go : (z : Section) → Each P (operands_by f (section_code begin p)) → Each P (operands_by f (section_code main p)) → Each P (operands_by f (section_code end p)) → Each P (operands_by f (section_code z p))
    go begin a b c = a
    go main a b c = b
    go end a b c = c

-- each constant and each ERE that an instruction names is in its table
pub constants-listed : (edition : ℕ) (p : Program) (z : Section)
    → Each (λ i. Each (λ c. has same_constant (tables_of edition p).constants c ≡ true) (constant_in i.operand)) (section_code z p)
unfolding tables_of
constants-listed edition p z =
    by-instruction (λ c. has same_constant (tables_of edition p).constants c ≡ true) constant_in (section_code z p)
    (section-named constant_in (λ c. has same_constant (tables_of edition p).constants c ≡ true) p (new-has same_constant constant-same (operands_by constant_in (all_code p)) []) z)

pub eres-listed : (edition : ℕ) (p : Program) (z : Section)
    → Each (λ i. Each (λ r. has same_bytes (tables_of edition p).eres r ≡ true) (ere_in i.operand)) (section_code z p)
unfolding tables_of
eres-listed edition p z =
    by-instruction (λ r. has same_bytes (tables_of edition p).eres r ≡ true) ere_in (section_code z p)
    (section-named ere_in (λ r. has same_bytes (tables_of edition p).eres r ≡ true) p (new-has same_bytes bytes_same (operands_by ere_in (all_code p)) []) z)

-- ---- "no set of 0, 1, 5, 6"

-- a special variable can be assigned, or its name's kind says that it can't
abbrev Agree : ℕ → List (List ℕ) → List Variable → Type 0
Agree edition [] [] = Unit
Agree edition [] (x ∷ vs) = ⊥
Agree edition (n ∷ ns) [] = ⊥
Agree edition (n ∷ ns) (x ∷ vs) = ((x.assignable ≡ true) ⊎ (same (word_kind edition n) fixed_variable ≡ true)) × (Agree edition ns vs)

may-assign : (edition : ℕ) (ns us : List (List ℕ)) (vs : List Variable) (v : List ℕ) → Agree edition ns vs → same (word_kind edition v) fixed_variable ≡ false
    → may_assign (nth vs (number_of same_bytes (ns ++ us) v)) ≡ true
unfolding number_of nth
may-assign edition [] us [] v a f = refl
may-assign edition [] us (x ∷ vs) v a f = absurd a
may-assign edition (n ∷ ns) us [] v a f = absurd a
may-assign edition (n ∷ ns) us (x ∷ vs) v a f =
    choose (λ (k : ℕ). may_assign (nth (x ∷ vs) k) ≡ true) (same_bytes v n) 0 (suc (number_of same_bytes (ns ++ us) v))
    (λ e. ⊎_elim (λ y. y) (λ y. absurd (true≢false (sym y ∙ subst (λ (w : List ℕ). same (word_kind edition w) fixed_variable ≡ false) (same-equal v n e) f))) a.0)
    (λ e. may-assign edition ns us vs v a.1 f)

-- the words of edition 1 have the kinds that the special variables have
specials-agree : Agree 1 special_names (specials_of 1)
unfolding specials special_count kind_in same_bytes rank
specials-agree = (inr refl, (inr refl, (inl refl, (inl refl, (inl refl, (inr refl, (inr refl, tt)))))))

pub set-allowed : (p : Program) (v : List ℕ) → same (word_kind 1 v) fixed_variable ≡ false → assignable 1 (number_of same_bytes (special_names ++ users_of 1 p) v) ≡ true
unfolding assignable special_of
set-allowed p v f = may-assign 1 special_names (users_of 1 p) (specials_of 1) v specials-agree f

-- and as many
pub names-count : special_count 1 ≡ length special_names
unfolding special_count
names-count = refl
