-- Small laws of what is taken and written one after the other.
use mathlib.Core.Path.{◌≡◌, refl}
use mathlib.Core.List.{List, [], ◌++◌, append_assoc}
use mathlib.Core.Option.{Option, some, none}
use Prim.Native.Nat.{ℕ}
use Rattle.lists.specs.Parsing.{Parsed, Parser, bind}
use Rattle.image_stages.proofs.Transcript.{before}

-- the same after the same
pub bind-same : {A B : Type 0} (o : Option (Parsed A)) {f g : A → Parser B} → ((a : A) (l : List ℕ) → f a l ≡ g a l) → bind o f ≡ bind o g
bind-same none h = refl
bind-same (some r) h = h r.value r.rest

pub before-nothing : (o : Option (Parsed (List ℕ))) → before [] o ≡ o
before-nothing none = refl
before-nothing (some g) = refl

pub before-before : (x y : List ℕ) (o : Option (Parsed (List ℕ))) → before x (before y o) ≡ before (x ++ y) o
before-before x y none = refl
before-before x y (some g) = rw append_assoc
