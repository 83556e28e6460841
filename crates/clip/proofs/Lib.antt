mod LineEnd
