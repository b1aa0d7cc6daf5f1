mod OneParent
