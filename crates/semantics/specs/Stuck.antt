-- Document 01, "Running": "The definition's result is stuck where an operand, an instruction or what a number names is
-- missing, an ERE doesn't read or no rule fits (print 0, `next` outside the record section, setting what can't be
-- assigned)." One constructor a case.
use Rattle.std.specs.Prelude.{◌≡◌, false, ◌⊎◌, List, [], ◌∷◌, ℕ, ◌≤◌, ◌<◌, length}
use Rattle.std.proofs.Math.Option.{some, none}
use Rattle.lists.specs.Elements.{nth}
use Rattle.ere_grammar.specs.Read.{read_ere}
use Rattle.image_format.specs.Codes.{ImmediateKind, an_ere, Code, code_of, action, flow, constant, get, set, print, next}
use Rattle.image_format.specs.Image.{Instruction, Image}
use Rattle.semantics.specs.Variables.{assignable}
use Rattle.semantics.specs.World.{World, value_at}
use Rattle.semantics.specs.Moves.{Section, begin, main, end, Location, at, between, Control, Config, section_of}

-- one of an instruction's numbers is v, and names a thing of a kind
abbrev pub Names : ImmediateKind → ℕ → List ImmediateKind → List ℕ → Type 0
Names kind v [] ns = ⊥
Names kind v (k ∷ ks) [] = ⊥
Names kind v (k ∷ ks) (n ∷ ns) = ((k ≡ kind) × (n ≡ v)) ⊎ (Names kind v ks ns)

module _ (i : Image) (c : Config) where
  -- the run is at this instruction, of this code
  pub record There (s : Section) (j : Instruction) (k : Code) : Type 0 where
    pub number : ℕ
    pub place : c.control.location ≡ at s number
    pub instruction : nth (section_of i s) number ≡ some j
    pub code : code_of i.edition j.code ≡ some k

  -- and has the numbers and the operands that the code asks for
  pub record Ready (s : Section) (j : Instruction) (k : Code) : Type 0 where
    pub there : There s j k
    pub numbers : length j.immediates ≡ length k.immediates
    pub operands : k.pops j.immediates ≤ length c.control.operands

  pub data Stuck : Type 0 where
    no_instruction : (s : Section) (n : ℕ) → c.control.location ≡ at s n → nth (section_of i s) n ≡ none → Stuck
    no_code : (s : Section) (n : ℕ) (j : Instruction) → c.control.location ≡ at s n → nth (section_of i s) n ≡ some j
        → code_of i.edition j.code ≡ none → Stuck
    no_number : {s : Section} {j : Instruction} {k : Code} → There s j k
        → (length j.immediates ≡ length k.immediates → ⊥) → Stuck
    no_operand : {s : Section} {j : Instruction} {k : Code} → There s j k
        → length j.immediates ≡ length k.immediates
        → length c.control.operands < k.pops j.immediates → Stuck
    no_constant : {s : Section} {j : Instruction} {k : Code} {v : ℕ} → Ready s j k → k.operation ≡ action constant
        → j.immediates ≡ v ∷ [] → nth i.constants v ≡ none → Stuck
    no_variable : {s : Section} {j : Instruction} {k : Code} {v : ℕ} → Ready s j k → k.operation ≡ action get
        → j.immediates ≡ v ∷ [] → value_at i.edition c.world v ≡ none → Stuck
    no_variable_to_set : {s : Section} {j : Instruction} {k : Code} {v : ℕ} → Ready s j k → k.operation ≡ action set
        → j.immediates ≡ v ∷ [] → length c.world.variables ≤ v → Stuck
    not_assignable : {s : Section} {j : Instruction} {k : Code} {v : ℕ} → Ready s j k → k.operation ≡ action set
        → j.immediates ≡ v ∷ [] → assignable i.edition v ≡ false → Stuck
    no_ere : {s : Section} {j : Instruction} {k : Code} (v : ℕ) → Ready s j k
        → Names an_ere v k.immediates j.immediates → nth i.eres v ≡ none → Stuck
    unread_ere : {s : Section} {j : Instruction} {k : Code} (v : ℕ) {l : List ℕ} → Ready s j k
        → Names an_ere v k.immediates j.immediates
        → nth i.eres v ≡ some l → read_ere i.edition l ≡ none → Stuck
    print_nothing : {s : Section} {j : Instruction} {k : Code} → Ready s j k → k.operation ≡ action print
        → k.pops j.immediates ≡ 0 → Stuck
    next_elsewhere : {s : Section} {j : Instruction} {k : Code} → Ready s j k → k.operation ≡ flow next
        → (s ≡ main → ⊥) → Stuck
