-- What a watcher was told, where that is kept.
use Rattle.std.specs.Prelude.{◌≡◌, List, ◌++◌, Option, Some, None, ⊤}
use Rattle.kernel_watch.specs.declared.notice.Notice.{Notice}

-- these notices were told, each once and in this order, behind those before, and no others
abbrev pub Hears : Option (List Notice) → Option (List Notice) → List Notice → Type 0
Hears None new notices = ⊤
Hears (Some before) None notices = ⊥
Hears (Some before) (Some after) notices = after ≡ before ++ notices
