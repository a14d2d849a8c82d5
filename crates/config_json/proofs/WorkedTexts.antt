-- The text that docs/FORMATS.md shows, so that a wrong rule in the definitions does not check.
use Rattle.config_json.proofs.PrintedLemmas.{◌≡◌, [], ◌∷◌, refl, codes, Parts, plain_event, config_text}
use Rattle.std.specs.Fmt.{digits}
use Rattle.serde_json.proofs.OnLiterals.{serde_json_on_literals}
use Rattle.ids_config.proofs.Plain.{instance_18}
use Rattle.config_json.specs.Printed.{config_tree, event_tree}

-- one event, with id 42 and sensor 3, of instance 18 and profile 1, and all else by default
abbrev base : Parts
base = instance_18 (plain_event 42 3 ∷ [])

-- its text
base_text : config_text base
    ≡ codes "{\"callers\":1,\"classes\":[],\"events\":[{\"aggregate\":null,\"block\":[],\"id\":42,\"mode\":\"DETAILED\",\"nth\":1,\"send\":true,\"sensor\":3,\"store\":false,\"threshold\":null,\"version\":0}],\"form\":2,\"instance\":18,\"internal\":{\"limited\":null,\"lost_contexts\":null,\"lost_events\":null},\"memory\":0,\"profile\":1,\"rate\":null,\"ring\":64,\"state\":0,\"traffic\":null}"
unfolding serde_json_on_literals digits config_tree event_tree
base_text = refl
