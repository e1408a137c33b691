-- One value and no fault, or one fault and no value.
use Rattle.std.specs.Prelude.{◌≡◌, ◌⊎◌}

abbrev pub IsOnly : {X : Type 0} → (X → Type 0) → X → Type 0
IsOnly {X} P x = P x × ((y : X) → P y → y ≡ x)

-- what is right of some text, and what is a fault of it
abbrev pub HasOneReading : {X F : Type 0} → (X → Type 0) → (F → Type 0) → Type 0
HasOneReading {X} {F} IsRight IsFault =
    ((x : X) × IsOnly IsRight x × ((fault : F) → ¬ IsFault fault))
    ⊎ ((fault : F) × IsOnly IsFault fault × ((x : X) → ¬ IsRight x))
