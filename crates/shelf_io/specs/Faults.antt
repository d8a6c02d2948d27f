-- Which fault stands for an error of the runtime.
use Rattle.std.specs.Prelude.{◌≡◌, ◌≢◌, ◌⊎◌}
use Rattle.std.specs.IoError.{error_kind}
use Rattle.std.specs.declared.io.Error.{Error}
use Rattle.std.specs.declared.io.ErrorKind.TheVariants.{OutOfMemory}

-- the fault is `memory` exactly where the kind of the error says so, and else `failed`
abbrev pub StandsFor : {F : Type 0} → F → F → Error → F → Type 0
StandsFor memory failed error fault =
    ((error_kind error ≡ OutOfMemory) × (fault ≡ memory))
    ⊎ ((error_kind error ≢ OutOfMemory) × (fault ≡ failed))
